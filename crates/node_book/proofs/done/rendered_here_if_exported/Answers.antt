use Rattle.std.proofs.Common.{Some, sym, ap, ◌∙◌}
use Rattle.group_events.specs.declared.replies.Reply.{Reply}
use Rattle.group_events.specs.Replies.{reply_of}
use Rattle.node_book.specs.Books.{file_in}
use Rattle.node_book.proofs.done.rendered_here_if_exported.Goals as goal

pub returns-in-Ok : goal.returns-in-Ok
returns-in-Ok c = ap Some c.in-Ok.ensures ∙ sym (ap (λ (r : Reply). file_in (reply_of r)) c.in-Exported.is)
