use Rattle.std.proofs.Common.{refl}
use Rattle.packet_text.proofs.Pieces.{puts_both, puts_bytes}
use Rattle.log_text.specs.LogText.{section_line}
use Rattle.log_text.proofs.writing.put_section.Goals as goal

pub returns : goal.returns
returns c =
    puts_both c.extend_from_slice.result _ c.put_counted.new.text.items _ (section_line c.args.word.now c.args.lines) c.args.below.now c.in-Ok.ensures
    (puts_bytes c.extend_from_slice.result _ _ c.args.below.now _ c.extend_from_slice.ensures.items refl)
