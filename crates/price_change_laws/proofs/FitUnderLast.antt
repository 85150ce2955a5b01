-- A node that has the last sheet refuses no export as unfit, and exports what it refused so under another one.
use Rattle.std.proofs.Common.{◌≡◌, ℕ, ◌+◌, ◌≤◌, Bool, true, false, List, [], length, refl, sym, ap, subst, ◌∙◌, arith, Some, None, inl, inr, Result, Ok, Err, ok_or}
use Rattle.std.specs.Prelude.{◌≢◌, if◌then◌else◌, slice_get}
use Rattle.std.proofs.lemmas.Option.{slice_get_within}
use Rattle.metering_model.specs.FirstFailure.{◌>>=◌}
use Rattle.metering_model.specs.Cut.{Cut}
use Rattle.metering_model.specs.Holding.{up_to}
use Rattle.metering_model.specs.Sheet.{Sheet}
use Rattle.metering_model.specs.declared.Refusal.{Refusal}
use Rattle.metering_model.specs.declared.Refusal.TheVariants.{NoNode, NotClosed}
use Rattle.metering_model.specs.World.{World, Node, Reply, Journaled, Delivered, Started, Restarted, Exported, KeptText, Refused, Snapshot, current_period}
use Rattle.metering_model.specs.Step.{cut_before, first_missing, unless_missing}
use Rattle.process_laws.specs.LocalSteps.{Group, ExportPeriod, OfModel, Unfit, HasExported, RefusedFor, Answer, exporting, is_fit, refusing, saying, unmoved}
use Rattle.process_laws.specs.Histories.{Processes, Act, Acted, NodeDoes, Tells, acted, after, begun, with_node_done, IsHistory}
use Rattle.process_laws.proofs.Stands.{Stands, world_of}
use Rattle.process_laws.proofs.MatchedActs.{all_are_matched}
use Rattle.process_laws.proofs.NodeActs.{node_comes}
use Rattle.price_change_laws.specs.SheetedHistories.{SheetedAct, group_under, sheeted_answers, sheeted_after, IsSheetedHistory, AreTakenOver, acts_kept}
use Rattle.price_change_laws.proofs.KeptActs.{all_kept}

-- no reply of a world is told by that word
is_told : (w : World) (i p : ℕ) (r : Reply) (x : Answer) → Tells w (NodeDoes i (ExportPeriod p)) r x → x ≢ refusing Unfit
is_told w i p (Journaled k) x tells is = let words = ap (λ (y : Answer). y.words) (sym tells.1 ∙ is) in absurd (cc (words))
is_told w i p (Delivered sent learned) x tells is = let words = sym tells.0 ∙ ap (λ (y : Answer). y.words) is in absurd (cc (words))
is_told w i p (Started ballot k) x tells is = let words = sym tells.0 ∙ ap (λ (y : Answer). y.words) is in absurd (cc (words))
is_told w i p Restarted x tells is = absurd tells
is_told w i p (Exported s) x tells is = let words = ap (λ (y : Answer). y.words) (sym tells ∙ is) in absurd (cc (words))
is_told w i p (KeptText text) x tells is = let words = ap (λ (y : Answer). y.words) (sym tells ∙ is) in absurd (cc (words))
is_told w i p (Refused refusal) x tells is = let words : RefusedFor (OfModel refusal) ≡ RefusedFor Unfit = ap (λ (y : Answer). y.words) (sym tells ∙ is) in absurd (cc)

begun_stands : (g : Group) (room : ℕ) → Stands g room (begun g) [] []
begun_stands g room = record {
  reached = record { events = []; leads = refl };
  journals_of = λ agent. refl;
  sent = λ p. (λ has. has, λ has. has);
  fewer = omega arith;
}

-- it would be an act more of a history, and so is done by a world
fit_after : (g : Group) (acts : List Act) → IsHistory g (begun g) acts → (i p : ℕ) (n : Node)
    → slice_get (after g (begun g) acts).nodes i ≡ Some n → exporting g n p ≢ refusing Unfit
fit_after g acts history i p n found is =
    let s : Processes = after g (begun g) acts in
    let room : ℕ = length s.sent + 1 in
    let all = all_are_matched g room acts (begun g) [] [] (begun_stands g room) history (omega arith) in
    let comes = node_comes g room s all.journals all.packets all.stands i (slice_get_within s.nodes i n found) (ExportPeriod p) tt in
    let here : acted g s (NodeDoes i (ExportPeriod p)) ≡ with_node_done i (unmoved (refusing Unfit) n) s =
    ap (λ o. elim o as (λ _. Acted) [
      | Some n ↦ with_node_done i (unmoved (exporting g n p) n) s
      | None ↦ record { answer = refusing (OfModel NoNode); after = s }
    ]) found ∙ ap (λ x. with_node_done i (unmoved x n) s) is in
    let answered : (acted g s (NodeDoes i (ExportPeriod p))).answer ≡ refusing Unfit = ap (λ (x : Acted). x.answer) here in
    let fits : length (acted g s (NodeDoes i (ExportPeriod p))).after.sent ≤ room =
    subst (λ (x : Acted). length x.after.sent ≤ room) (sym here) (omega arith) in
    elim (comes fits) [
      | inl one ↦ is_told (world_of g room one.journals_then one.packets_then (acted g s (NodeDoes i (ExportPeriod p))).after.nodes) i p one.reply
          (acted g s (NodeDoes i (ExportPeriod p))).answer one.tells answered
      | inr none ↦ none.needs_none
    ]

pub fit_under_last : (g : Group) (acts : List SheetedAct) → IsSheetedHistory g (begun g) acts → AreTakenOver g.sheet acts → (i p : ℕ) (n : Node)
    → slice_get (sheeted_after g (begun g) acts).nodes i ≡ Some n → exporting g n p ≢ refusing Unfit
fit_under_last g acts history taken i p n found =
    let kept = all_kept g acts history taken in
    fit_after g (acts_kept acts (sheeted_answers g (begun g) acts)) kept.history i p n (ap (λ ns. slice_get ns i) kept.leads.nodes ∙ found)

-- ---- what was refused so under another sheet

module _ (g : Group) (sheet : Sheet) (n : Node) (p : ℕ) where
  abbrev shown : Sheet → Cut → Snapshot
  shown other to = record { period = p; from = cut_before g.agents n.kept.learned p; to = to; batches = up_to to n.kept.holding; sheet = other; issuer = g.issuer }

  abbrev Exports : Answer → Type 0
  Exports x = (s : Snapshot) × (x ≡ saying (HasExported s))

  abbrev answered : Result Snapshot Refusal → Answer
  answered r = elim r [
    | Ok s ↦ if is_fit g n s then saying (HasExported s) else refusing Unfit
    | Err why ↦ refusing (OfModel why)
  ]

  by_fit : (s : Snapshot) (fit : Bool) → (if fit then saying (HasExported s) else refusing Unfit) ≢ refusing Unfit
      → Exports (if fit then saying (HasExported s) else refusing Unfit)
  by_fit s true fits = (s, refl)
  by_fit s false fits = absurd (fits refl)

  by_missing : (to : Cut) (r : Result (Unit {0}) Refusal) → answered (r >>= λ _. Ok (shown sheet to)) ≡ refusing Unfit
      → answered (r >>= λ _. Ok (shown g.sheet to)) ≢ refusing Unfit → Exports (answered (r >>= λ _. Ok (shown g.sheet to)))
  by_missing to (Err why) unfit fits = absurd (fits unfit)
  by_missing to (Ok u) unfit fits = by_fit (shown g.sheet to) (is_fit g n (shown g.sheet to)) fits

  by_cut : (r : Result Cut Refusal)
      → answered (r >>= λ to. unless_missing (first_missing n.kept.holding to) >>= λ _. Ok (shown sheet to)) ≡ refusing Unfit
      → answered (r >>= λ to. unless_missing (first_missing n.kept.holding to) >>= λ _. Ok (shown g.sheet to)) ≢ refusing Unfit
      → Exports (answered (r >>= λ to. unless_missing (first_missing n.kept.holding to) >>= λ _. Ok (shown g.sheet to)))
  by_cut (Err why) unfit fits = absurd (fits unfit)
  by_cut (Ok to) unfit fits = by_missing to (unless_missing (first_missing n.kept.holding to)) unfit fits

  pub exports_then : exporting (group_under sheet g) n p ≡ refusing Unfit → exporting g n p ≢ refusing Unfit
      → (s : Snapshot) × (exporting g n p ≡ saying (HasExported s))
  exports_then = by_cut (ok_or (slice_get n.kept.learned p) (NotClosed (current_period n)))

pub exported_under_last : (g : Group) (acts : List SheetedAct) → IsSheetedHistory g (begun g) acts → AreTakenOver g.sheet acts → (i p : ℕ) (n : Node)
    → slice_get (sheeted_after g (begun g) acts).nodes i ≡ Some n → (old : Sheet) → exporting (group_under old g) n p ≡ refusing Unfit
    → (s : Snapshot) × (exporting g n p ≡ saying (HasExported s))
exported_under_last g acts history taken i p n found old unfit = exports_then g old n p unfit (fit_under_last g acts history taken i p n found)
