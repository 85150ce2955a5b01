-- A lane is set just where its byte is below a space or above the last that is printed.
use Rattle.std.proofs.Common.{ltb, cond, take, refl, arith}
use Rattle.std.specs.Int.Bits.{bit_or}
use Rattle.std.proofs.lemmas.Simd.{length-chunk, splat_is_map, zip2_of_maps}
use Rattle.byte_text.proofs.LaneLaws.{itself}
use Rattle.record_view.proofs.TextLanes.{no_lane_set}
use Rattle.record_view.proofs.texts.is_text_in_step.Goals as goal

pub returns : goal.returns
returns g c =
    let n = g.row.LANES in
    let text = c.args.text.now in
    let cs = take n text in
    let long = length-chunk 0 n text (omega arith) in
    let low = zip2_of_maps (λ a b. cond (ltb a b) 255 0) (λ c. c) (λ _. 32) cs (itself cs) (splat_is_map cs n 32 long) in
    let high = zip2_of_maps (λ a b. cond (ltb a b) 255 0) (λ _. 126) (λ c. c) cs (splat_is_map cs n 126 long) (itself cs) in
    no_lane_set (λ c. bit_or (cond (ltb c 32) 255 0) (cond (ltb 126 c) 255 0)) n text _ c.requires.lanes long c.type_inv.text (zip2_of_maps bit_or _ _ cs low high) refl
