-- A lane is set just where its byte is a `=`.
use Rattle.std.proofs.Common.{◌+◌, ◌≤◌, ◌==◌, eqb, cond, refl, length, arith}
use Rattle.std.proofs.lemmas.Simd.{length-chunk, splat_is_map, zip2_of_maps}
use Rattle.byte_text.proofs.LaneLaws.{itself, run_is}
use lib.Lanes.{chunk}
use Rattle.record_view.proofs.plain.key_run.Goals as goal

pub returns : goal.returns
returns c =
    let text = c.args.text.now in
    let cs = chunk 0 8 text in
    let room : 0 + 8 ≤ length text = omega arith in
    let few : 8 ≤ 64 = omega arith in
    let long = length-chunk 0 8 text room in
    let equals = zip2_of_maps (λ a b. cond (eqb a b) 255 0) (λ x. x) (λ _. 61) cs (itself cs) (splat_is_map cs 8 61 long) in
    run_is (λ x. x == 61) text 8 few room c.type_inv.text _ _ equals c.lowest_set.result c.lowest_set.ensures refl
