-- Nothing is left of an empty text.
use Rattle.std.proofs.Common.{length, sym, ◌∙◌}
use Rattle.std.proofs.lemmas.Bool.{eqb-true}
use Rattle.record_view.specs.Parts.{lent}
use Rattle.record_view.proofs.TagLaws.{tags_of_empty}
use Rattle.record_view.proofs.tags.Tags.split_first.Goals as goal

pub returns-then-is_empty : goal.returns-then-is_empty
returns-then-is_empty c =
    let text = c.args.self.rest.text.now in
    tags_of_empty (lent c.args.self.rest) (eqb-true (length text) 0 (sym c.is_empty.ensures ∙ c.if-is_empty.true))
