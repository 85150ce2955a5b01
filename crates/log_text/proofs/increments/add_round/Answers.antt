-- Rounds are begun one after the other.
use Rattle.std.proofs.Common.{◌≡◌, ◌+◌, ap, arith, eq-eqb}
use Rattle.metering_model.specs.KeptText.{KeptAmong}
use Rattle.log_text.specs.LogText.{BeginsRound, among_with}
use Rattle.log_text.proofs.KeptSteps.{added, round_kept}
use Rattle.log_text.proofs.increments.add_round.Goals as goal

pub returns : goal.returns
returns c =
    let k = c.args.parts.now in
    let round = c.args.round in
    let own = ap (λ (x : KeptAmong). x.kept.round) c.parts.view_is in
    let next : round ≡ k.kept.round + 1 = omega (arith, own) in
    added k _ (BeginsRound round) (eq-eqb _ _ next) (ap (among_with (BeginsRound round)) c.parts.view_is) (round_kept k round c.requires.kept c.requires.most)
