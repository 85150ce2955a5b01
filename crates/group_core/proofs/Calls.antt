-- The headline of a call that answers and changes as a run does.
use Rattle.std.proofs.Common.{◌≡◌, ℕ, ◌+◌, ◌<◌, List, [], ◌∷◌, ◌++◌, length, map, take, get_or, arith, refl, sym, ap, subst, ◌∙◌, Result, Ok, Err, IfOk, OnErr}
use Rattle.std.proofs.lemmas.List.{map_more}
use Rattle.metering_model.specs.FirstFailure.{◌>>=◌}
use Rattle.metering_model.specs.declared.Refusal.{Refusal}
use Rattle.metering_model.specs.World.{World, Event, Export, Exported, Reply, Snapshot}
use Rattle.metering_model.specs.Step.{or_refused, snapshot, step, play}
use Rattle.metering_model.proofs.PlayLaws.{play-last, replies-last}
use Rattle.group_laws.specs.Headline.{AtMostOneIsChosen}
use Rattle.group_state.specs.Reached.{IsReached}
use Rattle.group_core.specs.Headline.{HasOneList, LearnsWhatIsChosen, ChargesOnce, IsExportOf, AreExportsOf, ExportsAgree, IsSameGroup, ListGrows, ExportsStay, AnswersEach, HasHeadline, IsLater}
use Rattle.group_state.proofs.Reaching.{play_reached}
use Rattle.group_core.proofs.Worlds.{one_chosen_here, one_list_here, learned_here, charged_once_here}
use Rattle.group_core.proofs.Runs.{same_group_in_run, grows_in_run, stay_in_run, exports_in_run, agree_in_run, answers_in_run}

module _ (w u : World) (es : List Event) (rs : List Reply) (h : IsReached w) (run : (rs, u) ≡ play w es) where
  -- what holds of the replies and the world of the model's run holds of these
  of_run : (P : List Reply → World → Type 0) → P (play w es).0 (play w es).1 → P rs u
  of_run P is = subst (λ (o : List Reply × World). P o.0 o.1) (sym run) is

  pub still_reached : IsReached u
  still_reached = of_run (λ rs u. IsReached u) (play_reached w es h)

  pub one_cut : AtMostOneIsChosen u
  one_cut = one_chosen_here u still_reached

  pub learned : LearnsWhatIsChosen u
  learned = learned_here u still_reached

  pub one_list : HasOneList u
  one_list = one_list_here u still_reached

  pub charges_once : ChargesOnce u
  charges_once = charged_once_here u still_reached

  pub exports : AreExportsOf u rs
  exports = of_run (λ rs u. AreExportsOf u rs) (exports_in_run w es h)

  pub agree : ExportsAgree u rs
  agree = of_run (λ rs u. ExportsAgree u rs) (agree_in_run w es h)

  pub answers : AnswersEach w es rs u
  answers = of_run (λ rs u. AnswersEach w es rs u) (answers_in_run w es h)

  pub same_group : IsSameGroup w u
  same_group = of_run (λ rs u. IsSameGroup w u) (same_group_in_run w es h)

  pub grows : ListGrows w u
  grows = of_run (λ rs u. ListGrows w u) (grows_in_run w es h)

  pub stay : ExportsStay w u
  stay = of_run (λ rs u. ExportsStay w u) (stay_in_run w es h)

  pub headline : HasHeadline u rs
  headline = record { one_cut = one_cut; learned = learned; cuts = one_list; charged_once = charges_once; exports = exports; agree = agree }

  pub later : IsLater w u
  later = record { group = same_group; grows = grows; stay = stay }

-- ---- one event more

pub play_more : (w u v : World) (es : List Event) (rs : List Reply) (e : Event) (r : Reply) → (rs, u) ≡ play w es → (r, v) ≡ step u e → (rs ++ r ∷ [], v) ≡ play w (es ++ e ∷ [])
play_more w u v es rs e r run now =
    let more : (rs ++ r ∷ [], v) ≡ (rs ++ (step u e).0 ∷ [], (step u e).1) = ap (λ (o : Reply × World). (rs ++ o.0 ∷ [], o.1)) now in
    let from : (rs ++ (step u e).0 ∷ [], (step u e).1) ≡ ((play w es).0 ++ (step (play w es).1 e).0 ∷ [], (step (play w es).1 e).1) = ap (λ (o : List Reply × World). (o.0 ++ (step o.1 e).0 ∷ [], (step o.1 e).1)) run in
    more ∙ (from ∙ sym (ap (λ rs. (rs, (play w (es ++ e ∷ [])).1)) (replies-last w es e) ∙ ap (λ v. ((play w es).0 ++ (step (play w es).1 e).0 ∷ [], v)) (play-last w es e)))

-- the same, of the event at an index, by its meaning
pub play_next : {A : Type 0} (meaning : A → Event) (es : List A) (i : ℕ) (x : A) (w u v : World) (rs : List Reply) (r : Reply) → i < length es → x ≡ get_or es i x
    → (rs, u) ≡ play w (map meaning (take i es)) → (r, v) ≡ step u (meaning x) → (rs ++ r ∷ [], v) ≡ play w (map meaning (take (i + 1) es))
play_next meaning es i x w u v rs r lt is run now =
    subst (λ xs. (rs ++ r ∷ [], v) ≡ play w xs) (sym (map_more meaning es i x lt))
    (play_more w u v (map meaning (take i es)) rs (meaning (get_or es i x)) r run (subst (λ y. (r, v) ≡ step u (meaning y)) is now))

-- ---- one step

-- a step is a run of one event
pub run_of_step : (w v : World) (e : Event) (r : Reply) → (r, v) ≡ step w e → (r ∷ [], v) ≡ play w (e ∷ [])
run_of_step w v e r now = ap (λ (o : Reply × World). (o.0 ∷ [], o.1)) now

-- a call that answers and changes as a step does, or refuses and changes nothing
module _ {R E : Type 0} (meaning : R → Reply) (result : Result R E) (w u : World) (e : Event) (h : IsReached w)
    (done : IfOk result (λ r. (meaning r, u) ≡ step w e)) (kept : OnErr result (u ≡ w)) where
  -- it does a run of one event, or of none
  run_of_call : (es : List Event) × (rs : List Reply) × ((rs, u) ≡ play w es)
  run_of_call = either result done kept
    where
      either : (result : Result R E) → IfOk result (λ r. (meaning r, u) ≡ step w e) → OnErr result (u ≡ w) → (es : List Event) × (rs : List Reply) × ((rs, u) ≡ play w es)
      either (Ok r) done kept = (e ∷ [], meaning r ∷ [], run_of_step w u e (meaning r) done)
      either (Err why) done kept = ([], [], ap (λ (x : World). ([], x)) kept)

  pub reached_after_call : IsReached u
  reached_after_call = still_reached w u run_of_call.0 run_of_call.1 h run_of_call.2

  pub later_after_call : IsLater w u
  later_after_call = later w u run_of_call.0 run_of_call.1 h run_of_call.2

  pub exports_of_call : IfOk result (λ r. AreExportsOf u (meaning r ∷ []))
  exports_of_call = either result done
    where
      either : (result : Result R E) → IfOk result (λ r. (meaning r, u) ≡ step w e) → IfOk result (λ r. AreExportsOf u (meaning r ∷ []))
      either (Ok r) done = exports w u (e ∷ []) (meaning r ∷ []) h (run_of_step w u e (meaning r) done)
      either (Err why) done = tt

-- ---- a snapshot

-- a snapshot that a reached world gives is an export of it
export_of_snapshot : (w : World) (i p : ℕ) (s : Snapshot) → IsReached w → snapshot w i p ≡ Ok s → IsExportOf w s
export_of_snapshot w i p s h e =
    exports w w (Export i p ∷ []) (Exported s ∷ []) h
    (sym (ap (λ (r : Result Snapshot Refusal). let now = or_refused w (r >>= λ s. Ok (Exported s, w)) in (now.0 ∷ [], now.1)) e)) s (0, omega arith, refl)

export_of_answer : (w : World) (i p : ℕ) (answer : Result Snapshot Refusal) → IsReached w → answer ≡ snapshot w i p → IfOk answer (λ s. IsExportOf w s)
export_of_answer w i p (Ok s) h e = export_of_snapshot w i p s h (sym e)
export_of_answer w i p (Err why) h e = tt

pub exports_of_answer : {E : Type 0} (w : World) (i p : ℕ) (result : Result (Result Snapshot Refusal) E) → IsReached w → IfOk result (λ answer. answer ≡ snapshot w i p) → IfOk result (λ answer. IfOk answer (λ s. IsExportOf w s))
exports_of_answer w i p (Ok answer) h e = export_of_answer w i p answer h e
exports_of_answer w i p (Err why) h e = tt
