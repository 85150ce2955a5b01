-- The rows of batches one behind the other, and what a batch takes off those that are left.
use Rattle.std.proofs.Common.{◌≡◌, ℕ, ◌+◌, ◌≤◌, true, List, [], ◌∷◌, ◌++◌, refl, sym, ap, ◌∙◌, append_assoc, Option, Some, None, is_some, subst}
use Rattle.std.specs.List.{flat_map}
use Rattle.std.proofs.lemmas.Grind.{flat_map-append}
use Rattle.std.proofs.lemmas.List.{append-nil}
use Rattle.metering_model.specs.Batch.{Batch}
use Rattle.metering_model.specs.Cut.{last_of}
use Rattle.metering_model.specs.Holding.{held}
use Rattle.metering_model.specs.Row.{Row}
use Rattle.metering_model.proofs.MissingLaws.{held-up_to_where}
use Rattle.focus_row.specs.declared.due_batches.BatchPlace.{BatchPlace}
use Rattle.focus_row.specs.Inner.Left.{Between, IsWithin, MayBeCharged, rows_left, rows_of_held, rows_of_batch, rows_of_place}
use Rattle.focus_row.proofs.StopLaws.{rows_first}

-- a batch of one of the agents, up to the later cut, is there
pub is_there : {b s : Between} {p : BatchPlace} → MayBeCharged b → b ≡ s → IsWithin s p → is_some (held b.batches p.agent p.seq) ≡ true
is_there {b} {s} {p} may same within =
    held-up_to_where b.batches b.to may.whole p.agent p.seq within.first (subst (λ (x : Between). p.seq ≤ last_of x.to p.agent) (sym same) within.last)

module _ (s : Between) (may : MayBeCharged s) where
  -- a batch's rows, and those behind it
  pub batch_first : (a q : ℕ) → 1 ≤ q → q ≤ last_of s.to a → rows_of_batch s a q ++ rows_left s a (q + 1) ≡ rows_left s a q
  batch_first a q from within = by_held (held s.batches a q) refl (held-up_to_where s.batches s.to may.whole a q from within)
    where
      by_held : (o : Option Batch) → held s.batches a q ≡ o → is_some (held s.batches a q) ≡ true → rows_of_batch s a q ++ rows_left s a (q + 1) ≡ rows_left s a q
      by_held None e there = absurd (cc)
      by_held (Some b) e there = ap (λ o. rows_of_held s o ++ rows_left s a (q + 1)) e ∙ sym (rows_first s may.stored.is_holding a q b e within)

-- one batch more: its rows stand behind those of the others
pub one_more_batch : (s : Between) (ps qs : List BatchPlace) (p : BatchPlace) (left all : List Row) → qs ≡ ps ++ p ∷ []
    → rows_of_place s p ++ rows_left s p.agent (p.seq + 1) ≡ left → flat_map (rows_of_place s) ps ++ left ≡ all
    → flat_map (rows_of_place s) qs ++ rows_left s p.agent (p.seq + 1) ≡ all
one_more_batch s ps qs p left all is first so_far =
    let rest = rows_left s p.agent (p.seq + 1) in
    let here = rows_of_place s p in
    ap (λ xs. flat_map (rows_of_place s) xs ++ rest) is
    ∙ ap (λ rs. rs ++ rest) (flat_map-append (rows_of_place s) ps (p ∷ []) ∙ ap (λ rs. flat_map (rows_of_place s) ps ++ rs) (append-nil here))
    ∙ append_assoc (flat_map (rows_of_place s) ps) here rest
    ∙ ap (λ rs. flat_map (rows_of_place s) ps ++ rs) first
    ∙ so_far
