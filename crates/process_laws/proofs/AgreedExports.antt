-- What processes export agrees: two files of one period are the same, each batch is in one period, a period begins where the one before it ends, and
-- its batches are those of each agent's journal.
use Rattle.std.proofs.Common.{◌≡◌, ℕ, zero, suc, ◌+◌, ◌<◌, ◌≤◌, Bool, true, false, List, [], ◌∷◌, filter, refl, sym, ap, subst, ◌∙◌, arith, unwrap_or}
use Rattle.std.specs.Prelude.{◌==◌, nat_le, slice_get}
use Rattle.std.specs.List.{Contains}
use Rattle.std.proofs.lemmas.Bool.{cond-true, cond-false}
use Rattle.metering_model.specs.Cut.{Cut, last_of, zero_cut}
use Rattle.metering_model.specs.Holding.{up_to}
use Rattle.metering_model.specs.World.{World, Exported, Snapshot}
use Rattle.metering_model.specs.Step.{cut_before, play}
use Rattle.group_laws.specs.Headline.{IsExport}
use Rattle.group_laws.specs.OneAgent.{batches_of}
use Rattle.process_laws.specs.LocalSteps.{Group, HasExported, saying}
use Rattle.process_laws.specs.Histories.{Act, begun, answers, after, IsHistory, opened, IsDoneByWorld}
use Rattle.process_laws.proofs.DoneByWorld.{is_done_by_world}
use Rattle.process_laws.proofs.ExportedAnswers.{exported_among}

-- ---- filters

-- two filters come to the same in either order
filters_commute : {A : Type 0} (p q : A → Bool) (xs : List A) → filter p (filter q xs) ≡ filter q (filter p xs)
filters_commute p q [] = refl
filters_commute {A = A} p q (x ∷ xs) = by_tests (p x) (q x) refl refl (filters_commute p q xs)
  where
    takes : (r : A → Bool) (ys : List A) → r x ≡ true → filter r (x ∷ ys) ≡ x ∷ filter r ys
    takes r ys is = cond-true (r x) (x ∷ filter r ys) (filter r ys) is

    drops : (r : A → Bool) (ys : List A) → r x ≡ false → filter r (x ∷ ys) ≡ filter r ys
    drops r ys is = cond-false (r x) (x ∷ filter r ys) (filter r ys) is

    by_tests : (t u : Bool) → p x ≡ t → q x ≡ u → filter p (filter q xs) ≡ filter q (filter p xs) → filter p (filter q (x ∷ xs)) ≡ filter q (filter p (x ∷ xs))
    by_tests true true is also rest =
        ap (filter p) (takes q xs also)
        ∙ (takes p (filter q xs) is
        ∙ (ap (λ ys. x ∷ ys) rest
        ∙ sym (ap (filter q) (takes p xs is) ∙ takes q (filter p xs) also)))
    by_tests true false is also rest = ap (filter p) (drops q xs also) ∙ (rest ∙ sym (ap (filter q) (takes p xs is) ∙ drops q (filter p xs) also))
    by_tests false true is also rest = ap (filter p) (takes q xs also) ∙ (drops p (filter q xs) is ∙ (rest ∙ sym (ap (filter q) (drops p xs is))))
    by_tests false false is also rest = ap (filter p) (drops q xs also) ∙ (rest ∙ sym (ap (filter q) (drops p xs is)))

-- ---- exports

-- the cut before a period is that of the period before it
before_next : (agents : ℕ) (cuts : List Cut) (p q : ℕ) → p + 1 ≡ q → cut_before agents cuts q ≡ unwrap_or (slice_get cuts p) (zero_cut agents)
before_next agents cuts p zero next = absurd (omega (arith, next))
before_next agents cuts p (suc q) next = let same : q ≡ p = omega (arith, next) in ap (λ k. unwrap_or (slice_get cuts k) (zero_cut agents)) same

module _ (g : Group) (acts : List Act) (history : IsHistory g (begun g) acts) where
  done : IsDoneByWorld g acts
  done = is_done_by_world g acts history

  abbrev left : World
  left = (play (opened g done.room) done.events).1

  abbrev HasFile : Snapshot → Type 0
  HasFile s = Contains (answers g (begun g) acts) (saying (HasExported s))

  -- the world exported it too
  replied : (s : Snapshot) → HasFile s → Contains (play (opened g done.room) done.events).0 (Exported s)
  replied s has = exported_among g s acts (answers g (begun g) acts) done.events (opened g done.room) done.matched has

  export : (s : Snapshot) → HasFile s → IsExport left done.headline.cuts s
  export s has = done.headline.exports s (replied s has)

  pub files_are_the_same : (s t : Snapshot) → HasFile s → HasFile t → s.period ≡ t.period → s ≡ t
  files_are_the_same s t has had same = done.headline.one_export s t (replied s has) (replied t had) same

  pub each_batch_once : (s t : Snapshot) → HasFile s → HasFile t → (agent seq : ℕ) → last_of s.from agent < seq → seq ≤ last_of s.to agent
      → last_of t.from agent < seq → seq ≤ last_of t.to agent → s.period ≡ t.period
  each_batch_once s t has had agent seq above within over inside =
      let a = export s has in
      let b = export t had in
      done.headline.charged_once.apart s.period t.period s.to t.to agent seq a.to b.to
      (subst (λ from. last_of from agent < seq) a.from above) within
      (subst (λ from. last_of from agent < seq) b.from over) inside

  pub next_begins_there : (s t : Snapshot) → HasFile s → HasFile t → s.period + 1 ≡ t.period → t.from ≡ s.to
  next_begins_there s t has had next =
      let a = export s has in
      let b = export t had in
      b.from ∙ (before_next left.agents done.headline.cuts s.period t.period next ∙ ap (λ o. unwrap_or o (zero_cut left.agents)) a.to)

  pub batches_are_journaled : (s : Snapshot) → HasFile s → (agent : ℕ) → batches_of agent s.batches ≡ up_to s.to ((after g (begun g) acts).journals agent)
  batches_are_journaled s has agent =
      ap (batches_of agent) (export s has).batches
      ∙ (filters_commute (λ b. b.agent == agent) (λ b. nat_le b.seq (last_of s.to b.agent)) left.journals
      ∙ ap (up_to s.to) (sym (done.left.journals agent)))
