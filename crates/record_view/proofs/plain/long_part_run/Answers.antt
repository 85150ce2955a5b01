-- A lane is set just where its byte is a `;`, below a space, or not below the bar.
use Rattle.std.proofs.Common.{◌+◌, ◌≤◌, leb, ltb, eqb, cond, refl, length, arith}
use Rattle.std.specs.Int.Bits.{bit_or}
use Rattle.std.proofs.lemmas.Simd.{length-chunk, splat_is_map, zip2_of_maps}
use Rattle.record_view.specs.Inner.Plain.{stops_at}
use Rattle.byte_text.proofs.LaneLaws.{itself, run_is}
use lib.Lanes.{chunk}
use Rattle.record_view.proofs.plain.long_part_run.Goals as goal

pub returns : goal.returns
returns c =
    let text = c.args.text.now in
    let cs = chunk 0 16 text in
    let room : 0 + 16 ≤ length text = omega arith in
    let few : 16 ≤ 64 = omega arith in
    let long = length-chunk 0 16 text room in
    let low = zip2_of_maps (λ a b. cond (ltb a b) 255 0) (λ c. c) (λ _. 32) cs (itself cs) (splat_is_map cs 16 32 long) in
    let high = zip2_of_maps (λ a b. cond (leb a b) 255 0) (λ _. 124) (λ c. c) cs (splat_is_map cs 16 124 long) (itself cs) in
    let end = zip2_of_maps (λ a b. cond (eqb a b) 255 0) (λ c. c) (λ _. 59) cs (itself cs) (splat_is_map cs 16 59 long) in
    run_is (stops_at 59) text 16 few room c.type_inv.text _ _ (zip2_of_maps bit_or _ _ cs (zip2_of_maps bit_or _ _ cs low high) end)
    c.lowest_set.result c.lowest_set.ensures refl
