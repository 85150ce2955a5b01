use Rattle.std.proofs.Common.{map, subst}
use Rattle.std.specs.Arc.{arc_value}
use Rattle.metering_model.specs.Limits.{most_packets}
use Rattle.metering_model.specs.History.{Entry}
use Rattle.group_laws.specs.Headline.{HoldsAfter}
use Rattle.node_book.specs.Books.{Book}
use Rattle.node_book.specs.Kept.{entry_of}
use Rattle.node_book.proofs.books.Book.legal.Goals as goal

pub returns-clause-headline : goal.returns-clause-headline
returns-clause-headline c =
    let b = c.self.inside in
    subst (λ (x : Book). HoldsAfter x.voters x.observers x.agents x.sheet x.issuer (map (λ (e : Entry). e.event) x.history) (map (λ (e : Entry). e.reply) x.history) x.world) c.self.view_is
    (c.runs.ensures.histories most_packets b.voters b.observers b.agents (arc_value b.sheet) (arc_value b.issuer) (map entry_of b.history.items) b.world c.self.invariant)
