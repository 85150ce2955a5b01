-- What a keep and a revival are answered.
use Rattle.std.proofs.Common.{◌≡◌, ℕ, ◌≤◌, Bool, ap, subst, ◌∙◌, arith, Some, Result, Ok, Err}
use Rattle.std.specs.Prelude.{slice_get}
use Rattle.std.proofs.lemmas.Bool.{false_from_ne_true}
use Rattle.metering_model.specs.FirstFailure.{◌>>=◌, holds_or}
use Rattle.metering_model.specs.BatchReading.{is_same}
use Rattle.metering_model.specs.declared.KeptTextFault.{KeptTextFault}
use Rattle.metering_model.specs.declared.Refusal.{Refusal}
use Rattle.metering_model.specs.declared.Refusal.TheVariants.{NotKept}
use Rattle.metering_model.specs.Limits.{most_packets}
use Rattle.metering_model.specs.World.{World, Node, Revive, Restart, KeptGood, Restarted, wake, with_node_at}
use Rattle.metering_model.specs.KeptText.{KeptAmong, HasText, kept_text}
use Rattle.metering_model.specs.Step.{Outcome, on_revival, or_bad_kept, kept_now, step}
use Rattle.metering_model.proofs.FieldLaws.{same_read}
use Rattle.metering_model.proofs.KeptLaws.{kept_written, read_back, writable_of}
use Rattle.group_laws.proofs.Revivals.{own_text_is_taken, each_has_text}
use Rattle.group_state.specs.Reached.{IsReached}
use Rattle.group_state.proofs.Reaching.{forms_here}

-- ---- what every reached world keeps

pub text_here : (w : World) (i : ℕ) (n : Node) → IsReached w → slice_get w.nodes i ≡ Some n → HasText (kept_now w n)
text_here w i n h found =
    let few : h.voters ≤ 99 = let all = h.opened.nodes_to in omega (arith, all) in
    subst (λ (u : World). slice_get u.nodes i ≡ Some n → HasText (kept_now u n)) h.leads
    (each_has_text most_packets h.voters h.observers h.agents h.sheet h.issuer h.events few h.opened.agents_from h.opened.agents_to i n) found

module _ (w : World) (i : ℕ) where
  -- ---- the text of what a node keeps

  -- ---- a revival

  module _ (n : Node) (k : KeptAmong) (reached : IsReached w) (found : slice_get w.nodes i ≡ Some n) (has : HasText k) where
    abbrev with_test : Bool → Result Outcome Refusal
    with_test b = holds_or b NotKept >>= λ u. Ok (Restarted, with_node_at i (wake k.kept) w)

    by_read : on_revival w i (KeptGood (kept_text k)) ≡ with_test (is_same (kept_text k) (kept_text (kept_now w n)))
    by_read = rw found (ap (λ (r : Result KeptAmong KeptTextFault). or_bad_kept r >>= λ j. holds_or (is_same (kept_text j) (kept_text (kept_now w n))) NotKept >>= λ u. Ok (Restarted, with_node_at i (wake j.kept) w)) (kept_written k has))

    -- of something else than what the node keeps
    pub stale_text : (k ≡ kept_now w n → ⊥) → on_revival w i (KeptGood (kept_text k)) ≡ Err NotKept
    stale_text other =
        by_read
        ∙ ap with_test (false_from_ne_true _ (λ e. other (read_back k (kept_now w n) has (writable_of (kept_now w n) (text_here w i n reached found)) (same_read _ _ e))))

    -- of what it keeps
    pub own_text : k ≡ kept_now w n → step w (Revive i (KeptGood (kept_text k))) ≡ step w (Restart i)
    own_text same =
        ap (λ (x : KeptAmong). step w (Revive i (KeptGood (kept_text x)))) same
        ∙ own_text_is_taken w (forms_here w reached) i n found (subst HasText same has)
