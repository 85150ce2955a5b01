-- A reading of format B2 is one of format B1 with a region behind it.
use Rattle.std.proofs.Common.{◌≡◌, ℕ, Bool, true, false, not, ◌&&◌, ◌||◌, List, [], ◌∷◌, ◌++◌, Option, Some, None, Result, Ok, ok_or, pos, int_lt, int_le, codes, refl, sym, ap, ◌∙◌}
use Rattle.std.specs.Result.{result_ok}
use Rattle.metering_model.specs.FirstFailure.{◌>>=◌, holds_or}
use Rattle.metering_model.specs.NumberText.{value_in}
use Rattle.metering_model.specs.Dates.{stamp_in}
use Rattle.metering_model.specs.Batch.{B1, B2, Record, Reads, Amends, is_text, is_empty, is_priced, lacks}
use Rattle.metering_model.specs.BatchReading.{BatchCode, Fields, Time, Number, Text, Tags, record_in, reading_in, fields_in, kind_in, tags_in, is_same}
use Rattle.metering_model.proofs.Splitting.{cut_last}

-- the record with that region, where it is a reading
abbrev pub in_region : List ℕ → Record → Record
in_region region (Reads r) = Reads (record r { region = Some region })
in_region region (Amends seq index value) = Amends seq index value

-- the region's rule stands behind all others
abbrev pub region_behind : List ℕ → Record → Result Record BatchCode
region_behind region x = do
  _ ← holds_or (is_text region) Text
  Ok (in_region region x)

-- a step behind a chain, and behind what stands in it
some_along : {A B C E : Type 0} (o : Option A) (e : E) (f : A → Result C E) (g : A → Result B E) (k : B → Result C E) → ((x : A) → f x ≡ (g x >>= k)) → (ok_or o e >>= f) ≡ ((ok_or o e >>= g) >>= k)
some_along (Some x) e f g k h = h x
some_along None e f g k h = refl

test_along : {B C E : Type 0} (b : Bool) (e : E) (f : Unit {0} → Result C E) (g : Unit {0} → Result B E) (k : B → Result C E) → f tt ≡ (g tt >>= k) → (holds_or b e >>= f) ≡ ((holds_or b e >>= g) >>= k)
test_along true e f g k h = h
test_along false e f g k h = refl

alone : (b : Bool) → (b && true) ≡ b
alone true = refl
alone false = refl

nine_and_region : (letter start end account resource key value commitment tags region : List ℕ) → reading_in letter start end account resource key value commitment tags (Some region) ≡ (reading_in letter start end account resource key value commitment tags None >>= region_behind region)
nine_and_region letter start end account resource key value commitment tags region =
    some_along (kind_in letter) Fields _ _ (region_behind region) (λ k.
    some_along (stamp_in start) Time _ _ (region_behind region) (λ s.
    some_along (stamp_in end) Time _ _ (region_behind region) (λ e.
    test_along (int_lt s e) Time _ _ (region_behind region)
    (test_along (is_text account) Text _ _ (region_behind region)
    (test_along (is_text resource) Text _ _ (region_behind region)
    (test_along (is_text key && not (is_empty key)) Text _ _ (region_behind region)
    (some_along (result_ok (value_in value)) Number _ _ (region_behind region) (λ v.
    test_along (not (is_priced k) || int_le (pos 0) v) Number _ _ (region_behind region)
    (test_along (is_text commitment && (is_priced k || is_empty commitment)) Text _ _ (region_behind region)
    (some_along (tags_in tags) Tags _ _ (region_behind region) (λ ts.
    ap (λ b. holds_or b Text >>= (λ _. Ok (Reads (record {
      kind = k;
      start = s;
      end = e;
      start_text = start;
      end_text = end;
      account = account;
      resource = resource;
      key = key;
      value = v;
      commitment = commitment;
      tags = ts;
      region = Some region;
    })))) (alone (is_text region)))))))))))))

-- The line of a reading of format B2, without its last field, is read as one of B1; the last field is its region.
pub read_in_region : (letter : List ℕ) (fs : List (List ℕ)) (region : List ℕ) → is_same letter (codes "X") ≡ false → record_in B2 (letter ∷ fs ++ region ∷ []) ≡ (record_in B1 (letter ∷ fs) >>= region_behind region)
read_in_region letter [] region h = refl
read_in_region letter (a ∷ []) region h = refl
read_in_region letter (a ∷ b ∷ []) region h = rw h refl
read_in_region letter (a ∷ b ∷ c ∷ []) region h = rw h refl
read_in_region letter (a ∷ b ∷ c ∷ d ∷ []) region h = refl
read_in_region letter (a ∷ b ∷ c ∷ d ∷ e ∷ []) region h = refl
read_in_region letter (a ∷ b ∷ c ∷ d ∷ e ∷ f ∷ []) region h = refl
read_in_region letter (a ∷ b ∷ c ∷ d ∷ e ∷ f ∷ g ∷ []) region h = refl
read_in_region letter (a ∷ b ∷ c ∷ d ∷ e ∷ f ∷ g ∷ i ∷ []) region h = nine_and_region letter a b c d e f g i region
read_in_region letter (a ∷ b ∷ c ∷ d ∷ e ∷ f ∷ g ∷ i ∷ j ∷ []) region h = refl
read_in_region letter (a ∷ b ∷ c ∷ d ∷ e ∷ f ∷ g ∷ i ∷ j ∷ k ∷ fs) region h = refl

-- an amendment has four fields in either
pub amended_alike : (fs : List (List ℕ)) → record_in B2 (codes "X" ∷ fs) ≡ record_in B1 (codes "X" ∷ fs)
amended_alike [] = refl
amended_alike (a ∷ []) = refl
amended_alike (a ∷ b ∷ []) = refl
amended_alike (a ∷ b ∷ c ∷ []) = refl
amended_alike (a ∷ b ∷ c ∷ d ∷ []) = refl
amended_alike (a ∷ b ∷ c ∷ d ∷ e ∷ []) = refl
amended_alike (a ∷ b ∷ c ∷ d ∷ e ∷ f ∷ []) = refl
amended_alike (a ∷ b ∷ c ∷ d ∷ e ∷ f ∷ g ∷ []) = refl
amended_alike (a ∷ b ∷ c ∷ d ∷ e ∷ f ∷ g ∷ i ∷ []) = refl
amended_alike (a ∷ b ∷ c ∷ d ∷ e ∷ f ∷ g ∷ i ∷ j ∷ []) = refl
amended_alike (a ∷ b ∷ c ∷ d ∷ e ∷ f ∷ g ∷ i ∷ j ∷ k ∷ fs) = refl

-- So the line of a reading of format B2 is cut at its last bar: what stands before it is read as a line of B1.
pub line_in_region : (letter : List ℕ) (fs : List (List ℕ)) (front region : List ℕ) → fields_in front ≡ letter ∷ fs → is_same letter (codes "X") ≡ false → lacks 124 region ≡ true
    → record_in B2 (fields_in (front ++ 124 ∷ region)) ≡ (record_in B1 (fields_in front) >>= region_behind region)
line_in_region letter fs front region are other whole =
    ap (record_in B2) (cut_last 124 front region whole ∙ ap (λ ps. ps ++ region ∷ []) are)
    ∙ (read_in_region letter fs region other
    ∙ ap (λ ps. record_in B1 ps >>= region_behind region) (sym are))
