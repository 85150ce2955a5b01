-- What long worked histories are shown by: for each act what is asked of it, and then all that is behind it.
use Rattle.std.proofs.Common.{List, [], ◌∷◌, Option, Some, None, inl}
use Rattle.metering_model.specs.World.{World, Event}
use Rattle.metering_model.specs.Step.{step}
use Rattle.process_laws.specs.LocalSteps.{Group, Answer}
use Rattle.process_laws.specs.Histories.{Act, IsEventOf, Tells, IsNoEvent, AreMatched}
use Rattle.process_laws.proofs.MatchedActs.{matched_before}

infixr 20 ◌⨾◌
pub ◌⨾◌ : {A B : Type 0} → A → B → A × B
a ⨾ b = (a, b)

-- For each act the event that it is, or none. Its answer tells what the event is replied, or is what is answered without one.
abbrev pub AreMatchedEach : Group → World → List Act → List Answer → List (Option Event) → Type 0
AreMatchedEach g w [] [] [] = Unit {0}
AreMatchedEach g w [] [] (e ∷ es) = ⊥
AreMatchedEach g w [] (x ∷ xs) es = ⊥
AreMatchedEach g w (a ∷ acts) [] es = ⊥
AreMatchedEach g w (a ∷ acts) (x ∷ xs) [] = ⊥
AreMatchedEach g w (a ∷ acts) (x ∷ xs) (Some e ∷ es) =
    (IsEventOf w a e × Tells (step w e).1 a (step w e).0 x) × AreMatchedEach g (step w e).1 acts xs es
AreMatchedEach g w (a ∷ acts) (x ∷ xs) (None ∷ es) = IsNoEvent g w a x × AreMatchedEach g w acts xs es

abbrev pub events_of : List (Option Event) → List Event
events_of [] = []
events_of (Some e ∷ es) = e ∷ events_of es
events_of (None ∷ es) = events_of es

pub so_are_matched : (g : Group) (w : World) (acts : List Act) (xs : List Answer) (es : List (Option Event)) → AreMatchedEach g w acts xs es
    → AreMatched g w acts xs (events_of es)
so_are_matched g w [] [] [] each = tt
so_are_matched g w [] [] (e ∷ es) each = absurd each
so_are_matched g w [] (x ∷ xs) es each = absurd each
so_are_matched g w (a ∷ acts) [] es each = absurd each
so_are_matched g w (a ∷ acts) (x ∷ xs) [] each = absurd each
so_are_matched g w (a ∷ acts) (x ∷ xs) (Some e ∷ es) each = inl (each.0.0, each.0.1, so_are_matched g (step w e).1 acts xs es each.1)
so_are_matched g w (a ∷ acts) (x ∷ xs) (None ∷ es) each =
    matched_before g w a x acts xs (events_of es) each.0 (so_are_matched g w acts xs es each.1)
