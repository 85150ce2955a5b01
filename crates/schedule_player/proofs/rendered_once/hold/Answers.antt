use Rattle.group_events.specs.Replies.{reply_of}
use Rattle.std.proofs.Common.{sym, ◌∙◌}
use Rattle.schedule_player.proofs.Held.{held_is, is_told, is_told_of}
use Rattle.schedule_player.proofs.rendered_once.hold.Goals as goal

pub returns-then-is_export_of-clause-text : goal.returns-then-is_export_of-clause-text
returns-then-is_export_of-clause-text c =
    is_told c.args.held.now c.args.line.now.items c.args.file.now (reply_of c.args.reply.now) c.requires.fits (sym c.is_export_of.ensures ∙ c.if-is_export_of.true)

pub returns-then-is_export_of-clause-held : goal.returns-then-is_export_of-clause-held
returns-then-is_export_of-clause-held c =
    let same = sym c.is_export_of.ensures ∙ c.if-is_export_of.true in
    let reply = reply_of c.args.reply.now in
    is_told_of c.args.held.now c.args.line.now.items c.args.file.now reply (held_is c.args.held.now reply same)
    (is_told c.args.held.now c.args.line.now.items c.args.file.now reply c.requires.fits same)
