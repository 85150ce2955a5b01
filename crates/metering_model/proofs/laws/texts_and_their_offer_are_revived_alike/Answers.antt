-- The step reads the text itself, and finds what reading it before had found.
use Rattle.std.proofs.Common.{◌≡◌, ℕ, List, Ok, Err, Result, ok_or, refl, sym, ap}
use Rattle.std.specs.Prelude.{slice_get}
use Rattle.metering_model.specs.FirstFailure.{◌>>=◌, holds_or}
use Rattle.metering_model.specs.BatchReading.{is_same}
use Rattle.metering_model.specs.declared.Refusal.{Refusal}
use Rattle.metering_model.specs.declared.Refusal.TheVariants.{NoNode, NotKept}
use Rattle.metering_model.specs.World.{World, Node, KeptTextFault, KeptGood, KeptBad, Revive, Restarted, wake, with_node_at}
use Rattle.metering_model.specs.KeptText.{KeptAmong, kept_text, kept_in}
use Rattle.metering_model.specs.Step.{Outcome, or_bad_kept, kept_now, or_refused, step}
use Rattle.metering_model.proofs.laws.texts_and_their_offer_are_revived_alike.Goals as goal

-- what a revival answers, by what was taken from its offer
revived : World → ℕ → Result KeptAmong Refusal → Result Outcome Refusal
revived w i taken =
    ok_or (slice_get w.nodes i) NoNode >>= λ (n : Node). taken >>= λ k.
    holds_or (is_same (kept_text k) (kept_text (kept_now w n))) NotKept >>= λ u. Ok (Restarted, with_node_at i (wake k.kept) w)

alike : (w : World) (i : ℕ) (text : List ℕ) (read : Result KeptAmong KeptTextFault) → kept_in text ≡ read →
    step w (Revive i (elim read [ Ok k ↦ KeptGood text | Err fault ↦ KeptBad fault ])) ≡ step w (Revive i (KeptGood text))
unfolding revived
alike w i text (Ok k) e = refl
alike w i text (Err fault) e = ap (λ (r : Result KeptAmong KeptTextFault). or_refused w (revived w i (or_bad_kept r))) (sym e)

pub returns : goal.returns
returns c = λ w node text. alike w node text (kept_in text) refl
