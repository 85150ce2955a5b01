use Rattle.std.proofs.Common.{sym, ap, ◌∙◌}
use Rattle.group_events.specs.Replies.{reply_of}
use Rattle.node_book.specs.Books.{Told}
use Rattle.node_book.proofs.Exports.{within_iff}
use Rattle.node_book.proofs.done.Done.is_within.Goals as goal

pub returns-in-Exported : goal.returns-in-Exported
returns-in-Exported c =
    within_iff c.args.self.now.reply c.in-Exported.snapshot c.number.result c.args.periods
    (sym (ap (λ (t : Told). t.reply) c.self.view_is) ∙ ap reply_of c.in-Exported.is) (c.number.ensures.value ∙ c.period.ensures)
