-- A lane is set just where its byte is the one that is looked for.
use Rattle.std.proofs.Common.{◌+◌, ◌≤◌, eqb, take, length, w8, ap, ◌∙◌, arith}
use Rattle.std.proofs.lemmas.Simd.{bitmask_splat, length-chunk, first_set_mask_l}
use Rattle.byte_text.specs.Runs.{lowest_set}
use Rattle.byte_text.proofs.LaneLaws.{byte_run}
use Rattle.byte_text.proofs.finding.run_before.Goals as goal

pub returns : goal.returns
returns g c =
    let text = c.args.text.now in
    let byte = c.args.byte in
    let many = g.row.LANES in
    let room : 0 + many ≤ length text = omega arith in
    let long = length-chunk 0 many text room in
    let mask = bitmask_splat w8 eqb (take many text) many byte long c.requires.lanes in
    byte_run byte text many c.lowest_set.result room (c.lowest_set.ensures ∙ ap (λ m. lowest_set m many) mask ∙ first_set_mask_l (λ x. eqb x byte) (take many text) many long c.requires.lanes)
