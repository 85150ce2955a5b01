use Rattle.std.proofs.Common.{◌≡◌, rules}
use Rattle.threads_player.proofs.JournalTexts.{before_minutes, hour_put}
use Rattle.threads_player.proofs.journals.put_hour.Goals as goal

pub returns : goal.returns
returns c =
    let before : c.put_two_digits-2.new.text.items ≡ before_minutes c.args.text.now.items c.args.month c.args.hour = search rules in
    hour_put c.extend_from_slice-3.result c.args.text.now.items _ _ c.args.month c.args.hour before c.extend_from_slice-3.ensures.items
