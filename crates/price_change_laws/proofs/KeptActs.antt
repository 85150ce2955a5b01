-- All acts of a history under several sheets, but for those that were refused for want of a price, are a history under the last one.
use Rattle.std.proofs.Common.{◌≡◌, Bool, true, false, not, List, [], ◌∷◌, map, refl, sym, ap, subst, ◌∙◌, All}
use Rattle.std.specs.Prelude.{if◌then◌else◌}
use Rattle.std.proofs.lemmas.List.Elements.{All-nil, All-cons, All-head, All-tail}
use Rattle.process_laws.specs.LocalSteps.{Group, Answer}
use Rattle.process_laws.specs.Histories.{Processes, Act, Acted, acted, answers, after, IsHistory, begun}
use Rattle.price_change_laws.specs.SheetedHistories.{SheetedAct, group_under, sheeted_acted, sheeted_answers, sheeted_after, IsSheetedHistory, IsTakenOver, AreTakenOver, lacks_price, answers_kept, acts_kept, answer_under, AreAlike}
use Rattle.price_change_laws.proofs.OtherSheet.{shows_unbroken}
use Rattle.price_change_laws.proofs.OneAct.{GoesAlike, goes_alike, may_act}

-- an answer that is an export, of what breaks no rule under the sheet that it was done under
abbrev pub IsFitAnswer : Answer → Type 0
IsFitAnswer x = shows_unbroken x.words ≡ true

-- from these processes on, and from others that are alike under the last sheet
pub record AreKept (g : Group) (s t : Processes) (acts : List SheetedAct) : Type 0 where
  pub history : IsHistory g t (acts_kept acts (sheeted_answers g s acts))
  pub answered : answers g t (acts_kept acts (sheeted_answers g s acts)) ≡ map (answer_under g.sheet) (answers_kept (sheeted_answers g s acts))
  pub leads : AreAlike (sheeted_after g s acts) (after g t (acts_kept acts (sheeted_answers g s acts)))
  pub fit : All IsFitAnswer (sheeted_answers g s acts)

pub are_kept : (g : Group) (acts : List SheetedAct) (s t : Processes) → AreAlike s t → IsSheetedHistory g s acts → AreTakenOver g.sheet acts
    → AreKept g s t acts
are_kept g [] s t h history taken = record { history = tt; answered = refl; leads = h; fit = All-nil IsFitAnswer }
are_kept g (x ∷ acts) s t h history taken =
    by_test (λ u alike. are_kept g acts now.after u alike history.1 (All-tail (λ (y : SheetedAct). IsTakenOver g.sheet y.sheet) x acts taken))
    (lacks_price now.answer) refl
  where
    over : IsTakenOver g.sheet x.sheet
    over = All-head (λ (y : SheetedAct). IsTakenOver g.sheet y.sheet) x acts taken

    now : Acted
    now = sheeted_acted g s x

    next : Acted
    next = acted g t x.act

    goes : GoesAlike g.sheet t now next
    goes = goes_alike g x.sheet over s t h x.act

    later : List Answer
    later = sheeted_answers g now.after acts

    kept : Bool → List Act
    kept b = if b then acts_kept acts later else x.act ∷ acts_kept acts later

    by_test : ((u : Processes) → AreAlike now.after u → AreKept g now.after u acts) → (b : Bool) → lacks_price now.answer ≡ b → AreKept g s t (x ∷ acts)
    by_test rest true is = let r = rest t (goes.still is) in record {
      history = subst (λ b. IsHistory g t (kept b)) (sym is) r.history;
      answered = subst (λ b. answers g t (kept b) ≡ map (answer_under g.sheet) (if not b then now.answer ∷ answers_kept later else answers_kept later)) (sym is) r.answered;
      leads = subst (λ b. AreAlike (sheeted_after g now.after acts) (after g t (kept b))) (sym is) r.leads;
      fit = All-cons IsFitAnswer now.answer later goes.fit r.fit;
    }
    by_test rest false is = let same = goes.same is in let r = rest next.after same.1 in record {
      history = subst (λ b. IsHistory g t (kept b)) (sym is) (may_act g x.sheet over s t h x.act history.0, r.history);
      answered = subst (λ b. answers g t (kept b) ≡ map (answer_under g.sheet) (if not b then now.answer ∷ answers_kept later else answers_kept later)) (sym is)
          (ap (λ y. y ∷ answers g next.after (acts_kept acts later)) same.0 ∙ ap (λ ys. answer_under g.sheet now.answer ∷ ys) r.answered);
      leads = subst (λ b. AreAlike (sheeted_after g now.after acts) (after g t (kept b))) (sym is) r.leads;
      fit = All-cons IsFitAnswer now.answer later goes.fit r.fit;
    }

pub alike_itself : (s : Processes) → AreAlike s s
alike_itself s = record { nodes = refl; journals = λ agent. refl; sent = refl }

pub all_kept : (g : Group) (acts : List SheetedAct) → IsSheetedHistory g (begun g) acts → AreTakenOver g.sheet acts → AreKept g (begun g) (begun g) acts
all_kept g acts history taken = are_kept g acts (begun g) (begun g) (alike_itself (begun g)) history taken

-- whatever the sheet: it takes itself over
pub changes_nothing : (g : Group) (s : Processes) (x : SheetedAct) → lacks_price (sheeted_acted g s x).answer ≡ true → AreAlike (sheeted_acted g s x).after s
changes_nothing g s x lacks =
    (goes_alike (group_under x.sheet g) x.sheet (record { base = refl; prices = λ r fit. fit }) s s (alike_itself s) x.act).still lacks
