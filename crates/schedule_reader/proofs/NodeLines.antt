-- The line of the nodes is read where it tells the voters and the observers of a group, and only there.
use Rattle.std.proofs.Common.{◌≡◌, ℕ, zero, suc, ◌+◌, ◌≤◌, ◌==◌, Bool, true, false, not, cond, List, [], ◌∷◌, ◌++◌, length, take, drop, Option, Some, None, Ok, decimal, codes, refl, sym, ap, ap₂, ◌∙◌, subst, arith, append_assoc, eqb-true, leb-true, le-leb}
use Rattle.std.specs.Prelude.{nat_le, nat_lt}
use Rattle.std.specs.List.{position, position_or_len}
use Rattle.std.specs.Option.{option_map}
use Rattle.std.proofs.lemmas.Bool.{and_parts, cond-true, cond-false}
use Rattle.std.proofs.lemmas.Bool.Decides.{nat_tests}
use Rattle.std.proofs.lemmas.List.{take-append-drop}
use Rattle.std.proofs.lemmas.List.Quantifiers.{position-Some}
use Rattle.std.proofs.lemmas.Option.{none-some, same_Some}
use Rattle.std.proofs.Math.Seq.{take-append_seam, drop-append_seam, drop-append-add}
use Rattle.metering_model.specs.Batch.{lacks}
use Rattle.metering_model.specs.BatchReading.{whole_in}
use Rattle.metering_model.specs.Schedule.{nodes_text}
use Rattle.metering_model.specs.Transcript.{line, with_number}
use Rattle.metering_model.proofs.FieldLaws.{same_read, whole_read, whole_written}
use Rattle.metering_model.proofs.Splitting.{list_all_both}
use Rattle.metering_model.proofs.StepLaws.{step_ok, some_step, ok_same, ok_step_from, some_step_from}
use Rattle.input_sections.specs.declared.faults.ScheduleCode.TheVariants.{Nodes}
use Rattle.input_sections.specs.Sections.{Unread, left, begins_with, first_line, number_behind}
use Rattle.schedule_reader.specs.Schedules.{both, if_few, counts_at, counts_in, nodes_behind, nodes_line}
use Rattle.schedule_reader.proofs.LineForms.{line_read, number_read}
use Rattle.schedule_reader.proofs.EventForms.{parted, both_read}
use Rattle.schedule_reader.proofs.WrittenLines.{line_written, begins_written, number_written, number_lacks_feed}
use Rattle.schedule_reader.proofs.WrittenEvents.{number_lacks_space, space_found}

-- the text of a line with observers
with_observers : (voters observers : ℕ) → 1 ≤ observers → nodes_text voters observers ≡ codes "nodes " ++ (decimal voters ++ 32 ∷ with_number (codes "observers ") observers)
with_observers voters zero some = absurd (omega (arith, some))
with_observers voters (suc m) some = append_assoc (codes "nodes ") (decimal voters) (with_number (codes " observers ") (suc m))

-- ---- what is read is told

few_read : (o : Option (ℕ × ℕ)) (m n : ℕ) → if_few o ≡ Some (m, n) → (o ≡ Some (m, n)) × (m + n ≤ 99)
few_read None m n h = absurd (none-some _ h)
few_read (Some p) m n h = by_test (nat_le (p.0 + p.1) 99) refl h
  where
    by_test : (b : Bool) → nat_le (p.0 + p.1) 99 ≡ b → cond b (Some p) None ≡ Some (m, n) → (◌≡◌ {A = Option (ℕ × ℕ)} (Some p) (Some (m, n))) × (m + n ≤ 99)
    by_test true e k =
        let same : ◌≡◌ {A = ℕ × ℕ} p (m, n) = same_Some _ _ k in
        (k, subst (λ (q : ℕ × ℕ). q.0 + q.1 ≤ 99) same (leb-true _ _ e))
    by_test false e k = absurd (none-some _ k)

alone_read : (o : Option ℕ) (m n : ℕ) → option_map {U = ℕ × ℕ} (λ v. (v, 0)) o ≡ Some (m, n) → (o ≡ Some m) × (n ≡ 0)
alone_read (Some v) m n h =
    let same : ◌≡◌ {A = ℕ × ℕ} (v, 0) (m, n) = same_Some _ _ h in
    (ap (λ (q : ℕ × ℕ). Some q.0) same, sym (ap (λ (q : ℕ × ℕ). q.1) same))
alone_read None m n h = absurd (none-some _ h)

-- such numbers, told behind the word
abbrev Tells : List ℕ → ℕ → ℕ → Type 0
Tells t m n = (codes "nodes " ++ t ≡ nodes_text m n) × (1 ≤ m) × (m + n ≤ 99)

counts_read : (t : List ℕ) (m n : ℕ) → counts_in t ≡ Some (m, n) → Tells t m n
counts_read t m n h = cases (position (λ c. c == 32) t) refl h
  where
    cases : (o : Option ℕ) → position (λ c. c == 32) t ≡ o → counts_at t o ≡ Some (m, n) → Tells t m n
    cases (Some i) e k =
        let few = few_read (both (whole_in 1 98 (take i t)) (number_behind (codes "observers ") 98 (drop (i + 1) t))) m n k in
        let numbers = both_read (whole_in 1 98 (take i t)) (number_behind (codes "observers ") 98 (drop (i + 1) t)) m n few.0 in
        let one = whole_read 1 98 (take i t) m (omega arith) numbers.0 in
        let other = number_read (codes "observers ") 1 98 (drop (i + 1) t) n (omega arith) numbers.1 in
        let at = position-Some (λ c. c == 32) t i 0 e in
        let apart : t ≡ decimal m ++ 32 ∷ with_number (codes "observers ") n = parted t i at.0 (eqb-true _ _ at.1) ∙ ap₂ (λ a b. a ++ 32 ∷ b) one.0 other.0 in
        (ap (λ s. codes "nodes " ++ s) apart ∙ sym (with_observers m n other.1), one.1, few.1)
    cases None e k =
        let alone = alone_read (whole_in 1 99 t) m n k in
        let one = whole_read 1 99 t m (omega arith) alone.0 in
        (ap (λ s. codes "nodes " ++ s) one.0 ∙ ap (nodes_text m) (sym alone.1), one.1, omega (arith, one.2, alone.1))

nodes_read : (l : List ℕ) (m n : ℕ) → nodes_behind l ≡ Some (m, n) → (l ≡ nodes_text m n) × (1 ≤ m) × (m + n ≤ 99)
nodes_read l m n h = cases (begins_with (codes "nodes ") l) refl h
  where
    rest : List ℕ
    rest = drop (length (codes "nodes ")) l

    cases : (b : Bool) → begins_with (codes "nodes ") l ≡ b → cond b (counts_in rest) None ≡ Some (m, n) → (l ≡ nodes_text m n) × (1 ≤ m) × (m + n ≤ 99)
    cases true e k =
        let told = counts_read rest m n k in
        (sym (take-append-drop (length (codes "nodes ")) l) ∙ ap (λ a. a ++ rest) (same_read (take (length (codes "nodes ")) l) (codes "nodes ") e) ∙ told.0, told.1, told.2)
    cases false e k = absurd (none-some _ k)

-- the line that was read stands at the front
pub nodes_line_read : (u : Unread) (r : ℕ × ℕ × Unread) → nodes_line u ≡ Ok r → (left u ≡ line (nodes_text r.0 r.1) ++ left r.2) × (1 ≤ r.0) × (r.0 + r.1 ≤ 99)
unfolding nodes_line
nodes_line_read u r h =
    let l = step_ok (first_line Nodes u) _ r h in
    let n = some_step (nodes_behind l.0.0) _ _ r l.2 in
    let told = nodes_read l.0.0 n.0.0 n.0.1 n.1 in
    let front = (line_read Nodes u l.0.0 l.0.1 l.1).0 ∙ ap (λ t. line t ++ left l.0.1) told.0 in
    subst (λ p. (left u ≡ line (nodes_text p.0 p.1) ++ left p.2) × (1 ≤ p.0) × (p.0 + p.1 ≤ 99)) (ok_same _ _ n.2) (front, told.1, told.2)

-- ---- what is told is read

no_space_place : (s : List ℕ) → lacks 32 s ≡ true → position_or_len (λ (c : ℕ). c == 32) s ≡ length s
no_space_place [] h = refl
no_space_place (c ∷ cs) h =
    let parts = and_parts (not (c == 32)) (lacks 32 cs) h in
    let later = no_space_place cs parts.1 in
    cond-true (not (c == 32)) _ 0 parts.0 ∙ omega (arith, later)

no_space_found : (s : List ℕ) → lacks 32 s ≡ true → position (λ (c : ℕ). c == 32) s ≡ None
no_space_found s h =
    let place = no_space_place s h in
    let at_end : nat_lt (position_or_len (λ (c : ℕ). c == 32) s) (length s) ≡ false = grind (arith, nat_tests, place) in
    cond-false _ _ None at_end

counts_written : (m n : ℕ) → 1 ≤ m → 1 ≤ n → m + n ≤ 99 → counts_in (decimal m ++ 32 ∷ with_number (codes "observers ") n) ≡ Some (m, n)
counts_written m n some more few =
    let rest = with_number (codes "observers ") n in
    let text = decimal m ++ 32 ∷ rest in
    ap (counts_at text) (space_found (decimal m) rest (number_lacks_space m (omega arith)))
    ∙ ap if_few (ap₂ both
    (ap (whole_in 1 98) (take-append_seam (decimal m) (32 ∷ rest)) ∙ whole_written 1 98 m (omega arith) some (omega arith))
    (ap (number_behind (codes "observers ") 98) (drop-append-add (decimal m) (32 ∷ rest) 1) ∙ number_written (codes "observers ") 1 98 n (omega arith) more (omega arith)))
    ∙ cond-true (nat_le (m + n) 99) _ None (le-leb _ _ few)

behind_word : (t : List ℕ) (m n : ℕ) → counts_in t ≡ Some (m, n) → nodes_behind (codes "nodes " ++ t) ≡ Some (m, n)
behind_word t m n h =
    cond-true (begins_with (codes "nodes ") (codes "nodes " ++ t)) _ None (begins_written (codes "nodes ") t) ∙ ap counts_in (drop-append_seam (codes "nodes ") t) ∙ h

nodes_written : (m n : ℕ) → 1 ≤ m → m + n ≤ 99 → nodes_behind (nodes_text m n) ≡ Some (m, n)
nodes_written m zero some few =
    behind_word (decimal m) m 0
    (ap (counts_at (decimal m)) (no_space_found (decimal m) (number_lacks_space m (omega arith)))
    ∙ ap (option_map {U = ℕ × ℕ} (λ v. (v, 0))) (whole_written 1 99 m (omega arith) some (omega arith)))
nodes_written m (suc n) some few =
    ap nodes_behind (with_observers m (suc n) (omega arith))
    ∙ behind_word (decimal m ++ 32 ∷ with_number (codes "observers ") (suc n)) m (suc n) (counts_written m (suc n) some (omega arith) few)

nodes_lack_feed : (m n : ℕ) → m + n ≤ 99 → lacks 10 (nodes_text m n) ≡ true
nodes_lack_feed m zero few = number_lacks_feed (codes "nodes ") m refl (omega arith)
nodes_lack_feed m (suc n) few =
    list_all_both (λ c. not (c == 10)) (with_number (codes "nodes ") m) (with_number (codes " observers ") (suc n))
    (number_lacks_feed (codes "nodes ") m refl (omega arith)) (number_lacks_feed (codes " observers ") (suc n) refl (omega arith))

-- a line at the front that tells them is read so, and what stands behind it is left
pub nodes_line_written : (u : Unread) (m n : ℕ) (rest : List ℕ) → 1 ≤ m → m + n ≤ 99 → left u ≡ line (nodes_text m n) ++ rest
    → (v : Unread) × (nodes_line u ≡ Ok (m, n, v)) × (left v ≡ rest)
unfolding nodes_line
nodes_line_written u m n rest some few stands =
    let next = line_written Nodes u (nodes_text m n) rest (nodes_lack_feed m n few) stands in (
      next.0,
      ok_step_from (first_line Nodes u) _ (nodes_text m n, next.0) _ next.1 (some_step_from (nodes_behind (nodes_text m n)) _ _ (m, n) _ (nodes_written m n some few) refl),
      next.2,
    )
