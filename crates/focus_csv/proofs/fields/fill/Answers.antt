-- Where one finds no room, all of them are longer than the line.
use Rattle.std.proofs.Common.{◌<◌, [], length, length-take, rules, ap, arith}
use Rattle.focus_csv.proofs.OneMore.{no_longer}
use Rattle.focus_csv.proofs.fields.fill.Goals as goal

pub returns-then-piece-line-clause-none : goal.returns-then-piece-line-clause-none
returns-then-piece-line-clause-none c = λ _.
    let pieces = c.args.pieces.now in
    let within : c.loop-piece.piece-index < length pieces = search (rules, arith) in
    let most = no_longer (λ t. t) (λ p. p.now) pieces c.loop-piece.piece-index (record { ref_ptr = (0, 0); now = [] }) within in
    let so_far = ap length c.loop-piece.invariant.so_far in
    let taken = length-take c.loop-piece.at c.loop-piece.line in
    omega (arith, most, so_far, taken, c.loop-piece.invariant.within, c.if-piece-line.true)
