use Rattle.std.proofs.Common.{length, arith, ap, length-drop}
use Rattle.std.proofs.lemmas.Fmt.{IsAscii-decimal}
use Rattle.fx_money.proofs.Buffers.{ascii_after}
use Rattle.fx_money.proofs.Whole.{length-whole_le}
use Rattle.fx_money.proofs.writing.Text.prepend_whole.Goals as goal

pub write_digits-self-inside-requires : goal.write_digits-self-inside-requires
write_digits-self-inside-requires c =
    let fields = c.self.inside in
    let short = length-whole_le c.args.number (omega arith) in
    (omega (arith, short, ap length c.self.view_is, length-drop fields.start fields.bytes, c.self.told), omega (arith, c.self.told, c.self.invariant.0))

pub invariant_of-self : goal.invariant_of-self
invariant_of-self c =
    let fields = c.self.inside in
    let written = c.write_digits-self-inside in (
      omega (arith, written.ensures.start, c.self.invariant.0),
      ascii_after written.new.buf fields.bytes _ written.result fields.start written.ensures.written written.ensures.before
          (IsAscii-decimal c.args.number (omega arith)) c.self.invariant.1,
    )
