-- Which batches count for what is warned of.
use Rattle.std.proofs.Common.{◌≡◌, ◌⊎◌, ℕ, zero, suc, ◌+◌, List, [], ◌∷◌, ◌++◌, length, take, Some, refl, sym, ap, ap₂, ◌∙◌, subst, inl, inr, arith}
use Rattle.std.specs.Prelude.{slice_get}
use Rattle.std.proofs.lemmas.List.{length-append}
use Rattle.std.proofs.lemmas.Option.{none-some, same_Some}
use Rattle.metering_model.specs.Batch.{Batch}
use Rattle.metering_model.specs.Schedule.{Planned, PlansDelivery, PlansExport, PlansJournal, PlansKeep, PlansRestart, PlansRevival, PlansStart, TextLines, lines_text}
use Rattle.metering_model.specs.World.{Reply, Journaled, Delivered, Started, Restarted, Exported, KeptText, Refused}
use Rattle.batch_view.specs.Batches.{batch_of}
use Rattle.input_check.specs.Warnings.{CountsWhatIsJournaled, if_journaled, journaled_among}

-- Of one event and its reply either nothing counts, or it is a journal whose batch was journaled.
abbrev Counts : ℕ → Planned → Reply → Type 0
Counts n e r =
    ((ls : TextLines) × (packet : ℕ) × (e ≡ PlansJournal ls) × (r ≡ Journaled packet))
    ⊎ ((if_journaled n e r ≡ []) × ((ls : TextLines) (packet : ℕ) → e ≡ PlansJournal ls → r ≡ Journaled packet → ⊥))

counts : (n : ℕ) (e : Planned) (r : Reply) → Counts n e r
counts n (PlansJournal ls) (Journaled packet) = inl (ls, packet, refl, refl)
counts n (PlansJournal ls) (Delivered sent learned) = inr (refl, λ other packet journal reply. cc)
counts n (PlansJournal ls) (Started b k) = inr (refl, λ other packet journal reply. cc)
counts n (PlansJournal ls) Restarted = inr (refl, λ other packet journal reply. cc)
counts n (PlansJournal ls) (Exported s) = inr (refl, λ other packet journal reply. cc)
counts n (PlansJournal ls) (KeptText text) = inr (refl, λ other packet journal reply. cc)
counts n (PlansJournal ls) (Refused why) = inr (refl, λ other packet journal reply. cc)
counts n (PlansDelivery k i) r = inr (refl, λ other packet journal reply. cc)
counts n (PlansStart i) r = inr (refl, λ other packet journal reply. cc)
counts n (PlansRestart i) r = inr (refl, λ other packet journal reply. cc)
counts n (PlansExport i p) r = inr (refl, λ other packet journal reply. cc)
counts n (PlansKeep i) r = inr (refl, λ other packet journal reply. cc)
counts n (PlansRevival i ls) r = inr (refl, λ other packet journal reply. cc)

-- of the events above that index so many count
abbrev above : ℕ → List ℕ → List Planned → List Reply → ℕ
above k lines events replies = length (journaled_among (take k lines) (take k events) (take k replies))

-- and below one more event as many more as count of it
further : (m : ℕ) (ms : List ℕ) (e : Planned) (es : List Planned) (r : Reply) (rs : List Reply) (i j k : ℕ) → i ≡ length (if_journaled m e r) + j → j ≡ above k ms es rs
    → i ≡ above (suc k) (m ∷ ms) (e ∷ es) (r ∷ rs)
further m ms e es r rs i j k at is =
    let here = if_journaled m e r in
    at ∙ (ap (λ n. length here + n) is ∙ sym (length-append here (journaled_among (take k ms) (take k es) (take k rs))))

abbrev IsFrom : List ℕ → List Planned → List Reply → ℕ → ℕ → Batch → Type 0
IsFrom lines events replies i n b = (k packet : ℕ) × (ls : TextLines)
    × (slice_get lines k ≡ Some n) × (slice_get events k ≡ Some (PlansJournal ls)) × (slice_get replies k ≡ Some (Journaled packet)) × (b ≡ batch_of (lines_text ls))
    × (i ≡ above k lines events replies)

one_behind : (m : ℕ) (ms : List ℕ) (e : Planned) (es : List Planned) (r : Reply) (rs : List Reply) (i j n : ℕ) (b : Batch)
    → i ≡ length (if_journaled m e r) + j → IsFrom ms es rs j n b → IsFrom (m ∷ ms) (e ∷ es) (r ∷ rs) i n b
one_behind m ms e es r rs i j n b at is = (suc is.0, is.1, is.2, is.3, is.4, is.5, is.6, further m ms e es r rs i j is.0 at is.7)

each_is : (lines : List ℕ) (events : List Planned) (replies : List Reply) (i n : ℕ) (b : Batch) → slice_get (journaled_among lines events replies) i ≡ Some (n, b)
    → IsFrom lines events replies i n b
each_is [] es rs i n b is = absurd (none-some _ is)
each_is (m ∷ ms) [] rs i n b is = absurd (none-some _ is)
each_is (m ∷ ms) (e ∷ es) [] i n b is = absurd (none-some _ is)
each_is (m ∷ ms) (e ∷ es) (r ∷ rs) i n b is = by_event (λ j so. each_is ms es rs j n b so) (counts m e r) i is
  where
    by_event : ((j : ℕ) → slice_get (journaled_among ms es rs) j ≡ Some (n, b) → IsFrom ms es rs j n b) → Counts m e r → (j : ℕ) → slice_get (if_journaled m e r ++ journaled_among ms es rs) j ≡ Some (n, b)
        → IsFrom (m ∷ ms) (e ∷ es) (r ∷ rs) j n b
    by_event later (inl is) zero so =
        let here = ap₂ (λ (x : Planned) (y : Reply). slice_get (if_journaled m x y ++ journaled_among ms es rs) 0) is.2 is.3 in
        let same : ◌≡◌ {A = ℕ × Batch} (m, batch_of (lines_text is.0)) (n, b) = same_Some _ _ (sym here ∙ so) in
        (0, is.1, is.0, ap (λ (p : ℕ × Batch). Some p.0) same, ap Some is.2, ap Some is.3, sym (ap (λ (p : ℕ × Batch). p.1) same), refl)
    by_event later (inl is) (suc j) so =
        let here = ap₂ (λ (x : Planned) (y : Reply). slice_get (if_journaled m x y ++ journaled_among ms es rs) (suc j)) is.2 is.3 in
        let long : length (if_journaled m e r) ≡ 1 = ap₂ (λ (x : Planned) (y : Reply). length (if_journaled m x y)) is.2 is.3 in
        one_behind m ms e es r rs (suc j) j n b (omega (arith, long)) (later j (sym here ∙ so))
    by_event later (inr none) j so =
        let long : length (if_journaled m e r) ≡ 0 = ap (λ (xs : List (ℕ × Batch)). length xs) none.0 in
        one_behind m ms e es r rs j j n b (omega (arith, long)) (later j (subst (λ (xs : List (ℕ × Batch)). slice_get (xs ++ journaled_among ms es rs) j ≡ Some (n, b)) none.0 so))

abbrev IsAt : List ℕ → List Planned → List Reply → ℕ → ℕ → TextLines → Type 0
IsAt lines events replies k n ls = (i : ℕ) × (slice_get (journaled_among lines events replies) i ≡ Some (n, batch_of (lines_text ls))) × (i ≡ above k lines events replies)

all_count : (lines : List ℕ) (events : List Planned) (replies : List Reply) (k n packet : ℕ) (ls : TextLines)
    → slice_get lines k ≡ Some n → slice_get events k ≡ Some (PlansJournal ls) → slice_get replies k ≡ Some (Journaled packet)
    → IsAt lines events replies k n ls
all_count [] es rs k n packet ls line event reply = absurd (none-some _ line)
all_count (m ∷ ms) [] rs k n packet ls line event reply = absurd (none-some _ event)
all_count (m ∷ ms) (e ∷ es) [] k n packet ls line event reply = absurd (none-some _ reply)
all_count (m ∷ ms) (e ∷ es) (r ∷ rs) zero n packet ls line event reply = by_event (counts m e r) (same_Some _ _ line) (same_Some _ _ event) (same_Some _ _ reply)
  where
    by_event : Counts m e r → m ≡ n → e ≡ PlansJournal ls → r ≡ Journaled packet → IsAt (m ∷ ms) (e ∷ es) (r ∷ rs) 0 n ls
    by_event (inl is) same journal answer = (
      0,
      ap₂ (λ (x : Planned) (y : Reply). slice_get (if_journaled m x y ++ journaled_among ms es rs) 0) journal answer
          ∙ ap (λ (x : ℕ). Some (x, batch_of (lines_text ls))) same,
      refl,
    )
    by_event (inr none) same journal answer = absurd (none.1 ls packet journal answer)
all_count (m ∷ ms) (e ∷ es) (r ∷ rs) (suc k) n packet ls line event reply = by_event (counts m e r) (all_count ms es rs k n packet ls line event reply)
  where
    by_event : Counts m e r → IsAt ms es rs k n ls → IsAt (m ∷ ms) (e ∷ es) (r ∷ rs) (suc k) n ls
    by_event (inl is) rest =
        let long : length (if_journaled m e r) ≡ 1 = ap₂ (λ (x : Planned) (y : Reply). length (if_journaled m x y)) is.2 is.3 in (
          suc rest.0,
          ap₂ (λ (x : Planned) (y : Reply). slice_get (if_journaled m x y ++ journaled_among ms es rs) (suc rest.0)) is.2 is.3 ∙ rest.1,
          further m ms e es r rs (suc rest.0) rest.0 k (omega (arith, long)) rest.2,
        )
    by_event (inr none) rest =
        let long : length (if_journaled m e r) ≡ 0 = ap (λ (xs : List (ℕ × Batch)). length xs) none.0 in (
          rest.0,
          subst (λ (xs : List (ℕ × Batch)). slice_get (xs ++ journaled_among ms es rs) rest.0 ≡ Some (n, batch_of (lines_text ls))) (sym none.0) rest.1,
          further m ms e es r rs rest.0 rest.0 k (omega (arith, long)) rest.2,
        )

pub counts_what_is_journaled : (lines : List ℕ) (events : List Planned) (replies : List Reply) → CountsWhatIsJournaled lines events replies
counts_what_is_journaled lines events replies = record { each = each_is lines events replies; all = all_count lines events replies }
