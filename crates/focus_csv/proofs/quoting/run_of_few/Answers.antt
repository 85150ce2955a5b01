-- A lane is set just where its byte is one of the four.
use Rattle.std.proofs.Common.{◌+◌, ◌≤◌, eqb, cond, refl, length, arith}
use Rattle.std.specs.Int.Bits.{bit_or}
use Rattle.std.proofs.lemmas.Simd.{length-chunk, splat_is_map, zip2_of_maps}
use Rattle.byte_text.proofs.LaneLaws.{itself, run_is}
use Rattle.focus_csv.specs.Inner.Quoting.{is_special}
use lib.Lanes.{chunk}
use Rattle.focus_csv.proofs.quoting.run_of_few.Goals as goal

pub returns : goal.returns
returns c =
    let field = c.args.field.now in
    let cs = chunk 0 8 field in
    let room : 0 + 8 ≤ length field = omega arith in
    let few : 8 ≤ 64 = omega arith in
    let long = length-chunk 0 8 field room in
    let comma = zip2_of_maps (λ a b. cond (eqb a b) 255 0) (λ c. c) (λ _. 44) cs (itself cs) (splat_is_map cs 8 44 long) in
    let mark = zip2_of_maps (λ a b. cond (eqb a b) 255 0) (λ c. c) (λ _. 34) cs (itself cs) (splat_is_map cs 8 34 long) in
    let back = zip2_of_maps (λ a b. cond (eqb a b) 255 0) (λ c. c) (λ _. 13) cs (itself cs) (splat_is_map cs 8 13 long) in
    let feed = zip2_of_maps (λ a b. cond (eqb a b) 255 0) (λ c. c) (λ _. 10) cs (itself cs) (splat_is_map cs 8 10 long) in
    let marks = zip2_of_maps bit_or _ _ cs comma mark in
    let ends = zip2_of_maps bit_or _ _ cs back feed in
    run_is is_special field 8 few room c.type_inv.field _ _ (zip2_of_maps bit_or _ _ cs marks ends) c.lowest_set.result c.lowest_set.ensures refl
