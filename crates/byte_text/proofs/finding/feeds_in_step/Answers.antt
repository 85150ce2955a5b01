-- A lane is set just where its byte is a line feed.
use Rattle.std.proofs.Common.{eqb, take, w8, ap, ◌∙◌, arith}
use Rattle.std.specs.Int.RustNames.{count_ones}
use Rattle.std.proofs.lemmas.Simd.{bitmask_splat, length-chunk, ones-mask_l}
use Rattle.byte_text.proofs.finding.feeds_in_step.Goals as goal

pub returns : goal.returns
returns g c =
    let text = c.args.text.now in
    let long = length-chunk 0 g.row.LANES text (omega arith) in
    ap count_ones (bitmask_splat w8 eqb (take g.row.LANES text) g.row.LANES 10 long c.requires.lanes)
    ∙ ones-mask_l (λ x. eqb x 10) (take g.row.LANES text)
