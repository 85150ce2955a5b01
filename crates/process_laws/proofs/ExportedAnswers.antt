-- A snapshot that a process answered stands among the replies of the world that does the same.
use Rattle.std.proofs.Common.{◌≡◌, ◌⊎◌, ℕ, List, [], ◌∷◌, refl, sym, ap, subst, ◌∙◌, arith, inl, inr}
use Rattle.std.specs.List.{Contains}
use Rattle.std.proofs.lemmas.List.Elements.{Contains-append_right, Contains-append_cases, Contains-push_cases}
use Rattle.metering_model.specs.Holding.{Holding}
use Rattle.metering_model.specs.World.{World, Event, Journaled, Delivered, Started, Restarted, Exported, KeptText, Refused, Reply, Snapshot}
use Rattle.metering_model.specs.Step.{step, play}
use Rattle.process_laws.specs.LocalSteps.{Group, TakePacket, BeginBallot, ExportPeriod, TellKept, SendBatch, JournalBatch, SendAgain, TellJournal, HasExported, Answer, saying}
use Rattle.process_laws.specs.Histories.{Act, NodeDoes, NodeGoesOn, AgentDoes, AgentGoesOn, WentOnAs, Tells, SendsOld, IsNoEvent, AreMatched}

-- what two answers say that are one answer
same_words : (x y z : Answer) → x ≡ y → x ≡ z → y.words ≡ z.words
same_words x y z is other = ap (λ (u : Answer). u.words) (sym is ∙ other)

going_on_exports_none : (w : World) (a : Act) (x : Answer) (s : Snapshot) → WentOnAs w a x → x ≡ saying (HasExported s) → ⊥
going_on_exports_none w (NodeDoes i c) x s went is = went
going_on_exports_none w (NodeGoesOn i stored) x s went is = let words = same_words x _ _ went.2 is in cc
going_on_exports_none w (AgentDoes a c) x s went is = went
going_on_exports_none w (AgentGoesOn a stored) x s went is = went

told_export : (w : World) (a : Act) (r : Reply) (x : Answer) (s : Snapshot) → Tells w a r x → x ≡ saying (HasExported s) → r ≡ Exported s
told_export w a (Journaled k) x s tells is = let words = same_words x _ _ tells.1 is in absurd (cc)
told_export w a (Delivered sent learned) x s tells is =
    let words = ap (λ (y : Answer). y.words) is in let other = tells.0 in absurd (cc (words, other))
told_export w a (Started ballot k) x s tells is =
    let words = ap (λ (y : Answer). y.words) is in let other = tells.0 in absurd (cc (words, other))
told_export w a Restarted x s tells is = absurd (going_on_exports_none w a x s tells is)
told_export w a (Exported t) x s tells is = let words = same_words x _ _ tells is in cc
told_export w a (KeptText text) x s tells is = let words = same_words x _ _ tells is in absurd (cc)
told_export w a (Refused why) x s tells is = let words = same_words x _ _ tells is in absurd (cc)

sending_exports_none : (w : World) (h : Holding) (agent seq : ℕ) (x : Answer) (s : Snapshot) → SendsOld w h agent seq x → x ≡ saying (HasExported s) → ⊥
sending_exports_none w h agent seq x s (inl old) is = let words = same_words x _ _ old.2 is in cc
sending_exports_none w h agent seq x s (inr missing) is = let words = same_words x _ _ missing.1 is in cc

none_exports : (g : Group) (w : World) (a : Act) (x : Answer) (s : Snapshot) → IsNoEvent g w a x → x ≡ saying (HasExported s) → ⊥
none_exports g w (NodeDoes i (TakePacket name p)) x s none is = let words = same_words x _ _ none.1 is in cc
none_exports g w (NodeDoes i BeginBallot) x s none is = none
none_exports g w (NodeDoes i (ExportPeriod p)) x s none is = none
none_exports g w (NodeDoes i TellKept) x s none is = none
none_exports g w (NodeDoes i (SendBatch agent seq)) x s none is = sending_exports_none w none.0.kept.holding agent seq x s none.2 is
none_exports g w (NodeGoesOn i stored) x s none is = none
none_exports g w (AgentDoes a (JournalBatch offer)) x s none is = let words = same_words x _ _ none.3 is in cc
none_exports g w (AgentDoes a (SendAgain seq)) x s none is = sending_exports_none w w.journals a seq x s none is
none_exports g w (AgentDoes a TellJournal) x s none is = let words = same_words x _ _ none is in cc
none_exports g w (AgentGoesOn a stored) x s none is = let words = same_words x _ _ none is in cc

first_or_later : {A : Type 0} (x y : A) (xs : List A) → Contains (x ∷ xs) y → (x ≡ y) ⊎ Contains xs y
first_or_later x y xs has = elim (Contains-append_cases (x ∷ []) xs y has) [
  | inl first ↦ elim (Contains-push_cases [] x y first) [ inl none ↦ absurd (omega (arith, none.1)) | inr is ↦ inl is ]
  | inr later ↦ inr later
]

module _ (g : Group) (s : Snapshot) where
  pub exported_among : (acts : List Act) (xs : List Answer) (es : List Event) (w : World) → AreMatched g w acts xs es
      → Contains xs (saying (HasExported s)) → Contains (play w es).0 (Exported s)
  exported_among [] [] [] w matched has = absurd (omega (arith, has.1))
  exported_among [] [] (e ∷ es) w matched has = absurd matched
  exported_among [] (x ∷ xs) es w matched has = absurd matched
  exported_among (a ∷ acts) [] es w matched has = absurd matched
  exported_among (a ∷ acts) (x ∷ xs) [] w matched has = elim (first_or_later x (saying (HasExported s)) xs has) [
    | inl is ↦ absurd (none_exports g w a x s matched.0 is)
    | inr later ↦ exported_among acts xs [] w matched.1 later
  ]
  exported_among (a ∷ acts) (x ∷ xs) (e ∷ es) w (inl matched) has = elim (first_or_later x (saying (HasExported s)) xs has) [
    | inl is ↦ subst (λ r. Contains (r ∷ (play (step w e).1 es).0) (Exported s)) (sym (told_export (step w e).1 a (step w e).0 x s matched.1 is)) (0, omega arith, refl)
    | inr later ↦ Contains-append_right ((step w e).0 ∷ []) (play (step w e).1 es).0 (Exported s) (exported_among acts xs es (step w e).1 matched.2 later)
  ]
  exported_among (a ∷ acts) (x ∷ xs) (e ∷ es) w (inr matched) has = elim (first_or_later x (saying (HasExported s)) xs has) [
    | inl is ↦ absurd (none_exports g w a x s matched.0 is)
    | inr later ↦ exported_among acts xs (e ∷ es) w matched.1 later
  ]
