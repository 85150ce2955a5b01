-- Which batches count for what is warned of.
use Rattle.std.proofs.Common.{◌≡◌, ◌⊎◌, ℕ, zero, suc, ◌+◌, List, [], ◌∷◌, ◌++◌, length, map, take, Some, refl, sym, ap, ap₂, ◌∙◌, subst, inl, inr, arith}
use Rattle.std.specs.Prelude.{slice_get}
use Rattle.std.proofs.lemmas.List.{length-append}
use Rattle.std.proofs.lemmas.Option.{none-some, same_Some}
use Rattle.metering_model.specs.Batch.{Batch}
use Rattle.metering_model.specs.Step.{play, step}
use Rattle.metering_model.specs.Transcript.{line_count}
use Rattle.metering_model.specs.World.{World, Reply, Journaled, Delivered, Started, Restarted, Exported, KeptText, Refused}
use Rattle.batch_view.specs.Batches.{batch_of}
use Rattle.schedule_writer.specs.Checks.{CountsWhatIsJournaled, IsJournaledAmong, if_journaled, journaled_of}
use Rattle.schedule_writer.specs.Inputs.{Offered}
use Rattle.schedule_writer.specs.Refusals.{IsJournaled, answer_to, journal_of}
use Rattle.schedule_writer.proofs.CountedLaws.{counted_behind}

-- ---- what is journaled counts

at_its_place : {A : Type 0} (xs ys : List A) (y : A) → slice_get (xs ++ y ∷ ys) (length xs) ≡ Some y
at_its_place [] ys y = refl
at_its_place (x ∷ xs) ys y = at_its_place xs ys y

every_counts : (input : List ℕ) (w : World) (bs : List Offered) (i lines : ℕ) (b : Batch) → IsJournaledAmong input w bs i lines b
    → slice_get (journaled_of input w bs) i ≡ Some (lines, b)
every_counts input w bs i lines b is =
    let u = (play w (map journal_of is.before)).1 in
    let rest = journaled_of input (step u (journal_of is.batch)).1 is.behind in
    let here : if_journaled input is.batch (answer_to u is.batch.text) ≡ (lines, b) ∷ []
    = ap (if_journaled input is.batch) is.taken.1 ∙ ap₂ (λ (n : ℕ) (x : Batch). (n, x) ∷ []) (sym is.are_lines) (sym is.is_batch) in
    let all : journaled_of input w bs ≡ journaled_of input w is.before ++ (lines, b) ∷ rest
    = ap (journaled_of input w) is.all
    ∙ (counted_behind input w is.before (is.batch ∷ is.behind) ∙ ap (λ (xs : List (ℕ × Batch)). journaled_of input w is.before ++ (xs ++ rest)) here) in
    ap₂ (λ (xs : List (ℕ × Batch)) (k : ℕ). slice_get xs k) all is.place ∙ at_its_place (journaled_of input w is.before) rest (lines, b)

-- ---- and nothing else does

abbrev IsOneOrNone : List ℕ → Offered → Reply → Type 0
IsOneOrNone input b r = IsJournaled r ⊎ (if_journaled input b r ≡ [])

one_or_none : (input : List ℕ) (b : Offered) (r : Reply) → IsOneOrNone input b r
one_or_none input b (Journaled k) = inl (k, refl)
one_or_none input b (Delivered sent learned) = inr refl
one_or_none input b (Started ballot k) = inr refl
one_or_none input b Restarted = inr refl
one_or_none input b (Exported s) = inr refl
one_or_none input b (KeptText text) = inr refl
one_or_none input b (Refused why) = inr refl

-- what stands among the batches behind one
one_above : (input : List ℕ) (w : World) (o : Offered) (os : List Offered) (i j lines : ℕ) (b : Batch)
    → i ≡ length (if_journaled input o (answer_to w o.text)) + j → IsJournaledAmong input (step w (journal_of o)).1 os j lines b
    → IsJournaledAmong input w (o ∷ os) i lines b
one_above input w o os i j lines b at is =
    let here = if_journaled input o (answer_to w o.text) in
    let both = length-append here (journaled_of input (step w (journal_of o)).1 is.before) in
    record {
      before = o ∷ is.before;
      batch = is.batch;
      behind = is.behind;
      all = ap (λ xs. o ∷ xs) is.all;
      taken = is.taken;
      are_lines = is.are_lines;
      is_batch = is.is_batch;
      place = at ∙ (ap (λ k. length here + k) is.place ∙ sym both);
    }

each_is : (input : List ℕ) (w : World) (bs : List Offered) (i lines : ℕ) (b : Batch) → slice_get (journaled_of input w bs) i ≡ Some (lines, b)
    → IsJournaledAmong input w bs i lines b
each_is input w [] i lines b is = absurd (none-some _ is)
each_is input w (o ∷ os) i lines b is =
    by_answer (λ j so. each_is input (step w (journal_of o)).1 os j lines b so) (one_or_none input o (answer_to w o.text)) i is
  where
    by_answer : ((j : ℕ) → slice_get (journaled_of input (step w (journal_of o)).1 os) j ≡ Some (lines, b) → IsJournaledAmong input (step w (journal_of o)).1 os j lines b)
        → IsOneOrNone input o (answer_to w o.text) → (j : ℕ)
        → slice_get (if_journaled input o (answer_to w o.text) ++ journaled_of input (step w (journal_of o)).1 os) j ≡ Some (lines, b)
        → IsJournaledAmong input w (o ∷ os) j lines b
    by_answer later (inl journaled) zero so =
        let one = ap (if_journaled input o) journaled.1 in
        let here = ap (λ (xs : List (ℕ × Batch)). slice_get (xs ++ journaled_of input (step w (journal_of o)).1 os) 0) one in
        let same : ◌≡◌ {A = ℕ × Batch} (line_count (take o.from input), batch_of o.text) (lines, b) = same_Some _ _ (sym here ∙ so) in
        record {
          before = [];
          batch = o;
          behind = os;
          all = refl;
          taken = journaled;
          are_lines = sym (ap (λ (p : ℕ × Batch). p.0) same);
          is_batch = sym (ap (λ (p : ℕ × Batch). p.1) same);
          place = refl;
        }
    by_answer later (inl journaled) (suc j) so =
        let one = ap (if_journaled input o) journaled.1 in
        let here = ap (λ (xs : List (ℕ × Batch)). slice_get (xs ++ journaled_of input (step w (journal_of o)).1 os) (suc j)) one in
        let long : length (if_journaled input o (answer_to w o.text)) ≡ 1 = ap (λ (xs : List (ℕ × Batch)). length xs) one in
        one_above input w o os (suc j) j lines b (omega (arith, long)) (later j (sym here ∙ so))
    by_answer later (inr none) j so =
        let long : length (if_journaled input o (answer_to w o.text)) ≡ 0 = ap (λ (xs : List (ℕ × Batch)). length xs) none in
        one_above input w o os j j lines b (omega (arith, long))
        (later j (subst (λ (xs : List (ℕ × Batch)). slice_get (xs ++ journaled_of input (step w (journal_of o)).1 os) j ≡ Some (lines, b)) none so))

pub counts_what_is_journaled : (input : List ℕ) (w : World) (bs : List Offered) → CountsWhatIsJournaled input w bs
counts_what_is_journaled input w bs = record { each = each_is input w bs; every = every_counts input w bs }
