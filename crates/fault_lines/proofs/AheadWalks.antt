-- What is told of the records of a batch so far, and what is to be told of those that are left.
use Rattle.std.proofs.Common.{◌≡◌, ℕ, ◌+◌, ◌<◌, inl, inr, List, [], ◌∷◌, ◌++◌, length, map, drop, Option, Some, ℤ, refl, sym, ap, ◌∙◌, arith, append_assoc, append-nil}
use Rattle.std.specs.List.{flat_map, slice_get}
use Rattle.std.proofs.lemmas.List.{drop_all, drop_more}
use Rattle.std.proofs.lemmas.Option.{slice_get_cases}
use Rattle.batch_view.specs.Asked.{asked_in}
use Rattle.metering_model.specs.Batch.{Amends, Record, Reads}
use Rattle.fault_lines.specs.Ahead.{ahead_in, latest, start_day, told_of_record}
use Rattle.fault_lines.proofs.Latest.{moved}

-- Below readings that start on these days, so much was told of the records above those that are left, and this is the latest day.
pub record IsWalked (lines : ℕ) (days : List ℤ) (before told : List ℕ) (all left : List Record) (index : ℕ) (now : Option ℤ) : Type 0 where
  pub seen : List ℤ
  pub is_latest : now ≡ latest seen
  pub is_told : before ++ ahead_in (lines + 2) days all ≡ told ++ ahead_in (lines + 2 + index) seen left
  pub end : latest (flat_map start_day all ++ days) ≡ latest (flat_map start_day left ++ seen)

-- The first of the records that are left is the one that is asked of.
pub record IsNext (rs : List Record) (i : ℕ) (a : Record) : Type 0 where
  pub r : Record
  pub there : slice_get rs i ≡ Some r
  pub asked : a ≡ asked_in r
  pub rest : drop i rs ≡ r ∷ drop (i + 1) rs
  pub low : i < length rs

pub next_asked : (rs : List Record) (i : ℕ) (a : Record) (more : List Record) → map asked_in (drop i rs) ≡ a ∷ more → IsNext rs i a
next_asked rs i a more is = elim (slice_get_cases rs i).1 [
  | inl h ↦
      let rest : drop i rs ≡ h.0 ∷ drop (i + 1) rs = drop_more rs i h.0 h.1 ∙ ap (λ x. x ∷ drop (i + 1) rs) h.3 in
      let both : asked_in h.0 ∷ map asked_in (drop (i + 1) rs) ≡ a ∷ more = sym (ap (map asked_in) rest) ∙ is in
      let same : asked_in h.0 ≡ a = cc in
      record { r = h.0; there = h.2; asked = sym same; rest = rest; low = h.1 }
  | inr h ↦ absurd (let none : map asked_in [] ≡ a ∷ more = sym (ap (map asked_in) (drop_all i rs h.0)) ∙ is in cc)
]

-- none is left
pub none_asked : (rs : List Record) (i : ℕ) → map asked_in (drop i rs) ≡ [] → drop i rs ≡ []
none_asked rs i is = by_rest (drop i rs) is
  where
    by_rest : (xs : List Record) → map asked_in xs ≡ [] → xs ≡ []
    by_rest [] so = refl
    by_rest (x ∷ xs) so = absurd (cc)

-- the record that comes next, and those behind it
pub next_day : (r : Record) (rest : List Record) (seen : List ℤ) → latest (flat_map start_day (r ∷ rest) ++ seen) ≡ latest (flat_map start_day rest ++ (start_day r ++ seen))
next_day (Reads r) rest seen = moved _ (flat_map start_day rest) seen
next_day (Amends seq index value) rest seen = refl

module _ (lines : ℕ) (days : List ℤ) (before told told' : List ℕ) (all : List Record) (index : ℕ) (now now' : Option ℤ) where
  pub walk_begins : now ≡ latest days → IsWalked lines days before before all all 0 now
  walk_begins is =
      let here : lines + 2 ≡ lines + 2 + 0 = omega arith in
      record { seen = days; is_latest = is; is_told = ap (λ n. before ++ ahead_in n days all) here; end = refl }

  pub walk_goes_on : (r : Record) (rest : List Record) (w : IsWalked lines days before told all (r ∷ rest) index now)
      → told' ≡ told ++ told_of_record (lines + 2 + index) w.seen r → now' ≡ latest (start_day r ++ w.seen)
      → IsWalked lines days before told' all rest (index + 1) now'
  unfolding ahead_in
  walk_goes_on r rest w told_is now_is =
      let n = lines + 2 + index in
      let next : n + 1 ≡ lines + 2 + (index + 1) = omega arith in
      record {
        seen = start_day r ++ w.seen;
        is_latest = now_is;
        is_told =
            w.is_told
            ∙ (sym (append_assoc told (told_of_record n w.seen r) (ahead_in (n + 1) (start_day r ++ w.seen) rest))
            ∙ (ap (λ t. t ++ ahead_in (n + 1) (start_day r ++ w.seen) rest) (sym told_is)
            ∙ ap (λ m. told' ++ ahead_in m (start_day r ++ w.seen) rest) next));
        end = w.end ∙ next_day r rest w.seen;
      }

  pub walk_told : (w : IsWalked lines days before told all [] index now) → told ≡ before ++ ahead_in (lines + 2) days all
  unfolding ahead_in
  walk_told w = sym (w.is_told ∙ append-nil told)

  pub walk_latest : (w : IsWalked lines days before told all [] index now) → now ≡ latest (flat_map start_day all ++ days)
  walk_latest w = w.is_latest ∙ sym w.end
