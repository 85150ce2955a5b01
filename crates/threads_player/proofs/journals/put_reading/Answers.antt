use Rattle.std.proofs.Common.{◌≡◌, rules}
use Rattle.threads_player.proofs.JournalTexts.{reading_begun, reading_put}
use Rattle.threads_player.proofs.journals.put_reading.Goals as goal

pub returns : goal.returns
returns c =
    let before : c.put_numbered-3.new.text.items ≡ reading_begun c.args.text.now.items c.args.agent c.args.seq c.args.month = search rules in
    reading_put c.extend_from_slice-3.result c.args.text.now.items _ _ c.args.agent c.args.seq c.args.month before c.extend_from_slice-3.ensures.items
