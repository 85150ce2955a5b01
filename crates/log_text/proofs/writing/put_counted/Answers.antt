use Rattle.std.proofs.Common.{[], ◌∷◌, ◌++◌, decimal, refl}
use Rattle.packet_text.proofs.Pieces.{puts_both, puts_bytes, stayed}
use Rattle.log_text.proofs.writing.put_counted.Goals as goal

pub returns-in_default : goal.returns-in_default
returns-in_default c = stayed c.in_default.ensures.kept

pub returns : goal.returns
returns c =
    puts_both c.extend_from_slice.result _ c.put_numbered.new.text.items _ (c.args.word.now ++ decimal c.args.number) (10 ∷ []) c.in-Ok.ensures.put
    (puts_bytes c.extend_from_slice.result _ _ (10 ∷ []) _ c.extend_from_slice.ensures.items refl)
