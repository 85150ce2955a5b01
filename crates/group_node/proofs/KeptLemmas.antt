-- What is kept stays within its limits.
use Rattle.std.proofs.Common.{◌≡◌, ℕ, ◌≤◌, Bool, true, false, cond, sym, subst}
use Rattle.std.proofs.lemmas.Option.{same_Some}
use Rattle.metering_model.specs.Ballot.{Acceptor, after_prepare}
use Rattle.metering_model.specs.Holding.{Holding}
use Rattle.node_kept.specs.Stores.{Stored}
use Rattle.metering_model.specs.KeptText.{KeptAmong, IsBallotNumber}
use Rattle.node_kept.specs.Kept.{IsKept}

-- another round
pub started_kept : (k : KeptAmong) (round : ℕ) → IsKept k → round ≤ 10_000 → IsKept (record { agents = k.agents; kept = record k.kept { round = round } })
started_kept k round is within = record {
  round = within;
  periods = is.periods;
  cuts = is.cuts;
  promised = is.promised;
  vote = is.vote;
}

-- a ballot promised, or not
pub promised_kept : (k : KeptAmong) (ballot : ℕ) (is_above : Bool) (a : Acceptor) → IsKept k → IsBallotNumber ballot → a ≡ cond is_above (after_prepare ballot k.kept.acceptor) k.kept.acceptor
    → IsKept (record { agents = k.agents; kept = record k.kept { acceptor = a } })
promised_kept k ballot is_above a is number same = subst (λ (x : Acceptor). IsKept (record { agents = k.agents; kept = record k.kept { acceptor = x } })) (sym same) (by_test is_above)
  where
    by_test : (b : Bool) → IsKept (record { agents = k.agents; kept = record k.kept { acceptor = cond b (after_prepare ballot k.kept.acceptor) k.kept.acceptor } })
    by_test true = record { round = is.round; periods = is.periods; cuts = is.cuts; promised = λ b e. subst IsBallotNumber (same_Some ballot b e) number; vote = is.vote }
    by_test false = is

-- more batches
pub holding_kept : (k : KeptAmong) (h : Holding) (s : Stored) → IsKept k → s ≡ record { agents = k.agents; batches = h } → IsKept (record { agents = s.agents; kept = record k.kept { holding = s.batches } })
holding_kept k h s is same = subst (λ (x : Stored). IsKept (record { agents = x.agents; kept = record k.kept { holding = x.batches } })) (sym same)
    (record { round = is.round; periods = is.periods; cuts = is.cuts; promised = is.promised; vote = is.vote })
