-- What stands first is read before the sheet and the issuer.
use Rattle.process_player.proofs.PreambleLaws.{preamble_read, both_refused}
use Rattle.process_player.proofs.preambles.preamble_in.Goals as goal

pub returns-in-Ok-clause-read : goal.returns-in-Ok-clause-read
returns-in-Ok-clause-read c =
    let it = c.in-Ok.ensures.read in (
      it.0,
      preamble_read c.args.kind c.args.text.now c.in_ok-unread.unread (c.in_ok-own.own, c.in_ok-own.below) c.in-Ok.sheet c.in-Ok.issuer it.0 c.in_ok-unread.ensures.whole c.in_ok-own.ensures.read it.1,
      it.2,
    )

pub returns-in-Err-clause-refused : goal.returns-in-Err-clause-refused
returns-in-Err-clause-refused c = λ other.
    both_refused c.args.kind c.args.text.now c.in_ok-unread.unread (c.in_ok-own.own, c.in_ok-own.below) c.in-Err.fault c.in_ok-unread.ensures.whole c.in_ok-own.ensures.read (c.in-Err.ensures.refused other)
