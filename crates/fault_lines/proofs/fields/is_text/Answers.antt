use Rattle.std.proofs.Common.{◌+◌, ◌&&◌, get_or, drop, refl, sym, ap, ap₂, ◌∙◌, le-leb}
use Rattle.std.proofs.lemmas.List.{at_drop_all, at_drop_more}
use Rattle.metering_model.specs.Batch.{is_text}
use Rattle.fault_lines.proofs.fields.is_text.Goals as goal

pub loop-byte-init : goal.loop-byte-init
loop-byte-init c = refl

pub loop-byte-preserved : goal.loop-byte-preserved
loop-byte-preserved c =
    let text = c.args.text.now in
    let i = c.loop-byte.byte-index in
    let fits = ap₂ ◌&&◌ (le-leb 32 (get_or text i 0) c.if-byte-lt32.false) (le-leb (get_or text i 0) 126 c.if-byte-gt126.false) in
    sym (at_drop_more is_text text i 0 c.loop-byte-test.true ∙ ap (λ b. b && is_text (drop (i + 1) text)) fits) ∙ c.loop-byte.invariant

pub returns : goal.returns
returns c = sym (at_drop_all is_text c.args.text.now c.loop-byte.byte-index c.loop-byte-test.false) ∙ c.loop-byte.invariant
