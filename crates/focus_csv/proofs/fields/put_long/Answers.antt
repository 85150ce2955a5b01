-- One more piece.
use Rattle.std.proofs.Common.{◌<◌, ◌∙◌, length, rules, arith}
use Rattle.focus_csv.proofs.BeginningLaws.{on_err}
use Rattle.focus_csv.proofs.OneMore.{put_more}
use Rattle.focus_csv.proofs.fields.put_long.Goals as goal

pub loop-piece-preserved : goal.loop-piece-preserved
loop-piece-preserved c =
    let pieces = c.args.pieces.now in
    let within : c.loop-piece.piece-index < length pieces = search (rules, arith) in
    put_more (λ t. t) (λ p. p.now) pieces c.loop-piece.piece-index _ c.args.text.now.items _ _ within
    c.in_ok-extend_from_slice.ensures.items c.loop-piece.invariant

pub returns-in_err-extend_from_slice-clause-begins : goal.returns-in_err-extend_from_slice-clause-begins
returns-in_err-extend_from_slice-clause-begins c =
    on_err c.from_residual.result (_, c.in_err-extend_from_slice.ensures.items ∙ c.loop-piece.invariant)
