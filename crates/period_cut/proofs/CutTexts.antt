-- The line of a cut, sequence by sequence.
use Rattle.std.proofs.Common.{◌≡◌, ℕ, zero, suc, ◌+◌, ◌-◌, ◌≤◌, ◌<◌, ◌==◌, Bool, true, false, cond, List, [], ◌∷◌, ◌++◌, length, map, take, Option, Some, None, MatchOption, decimal, refl, sym, ap, ap₂, ◌∙◌, arith, append_assoc, eqb-true, eq-eqb, get_or}
use Rattle.std.specs.List.{join_with_byte}
use Rattle.std.specs.Option.{option_map, is_some}
use Rattle.std.proofs.lemmas.List.Splits.{length-slice_split}
use Rattle.std.proofs.lemmas.Bool.{cond-false, false_from_ne_true, false≢true}
use Rattle.metering_model.specs.BatchReading.{whole_in, with_first, all_some, fields_in}
use Rattle.metering_model.specs.KeptText.{cut_in}
use Rattle.metering_model.proofs.KeptLines.{cut_read}
use Rattle.period_cut.specs.Limits.{IsCut}

-- ---- reading

-- sequences that were read, and what is read of the others
abbrev pub read_before : List ℕ → Option (List ℕ) → Option (List ℕ)
read_before before others = option_map (λ cut. before ++ cut) others

abbrev seq_in : List ℕ → Option ℕ
seq_in f = whole_in 0 1_000_000 f

first_read : (b : Bool) (x : ℕ) (o : Option (List ℕ)) → cond b (with_first (Some x) o) None ≡ option_map (λ cut. x ∷ cut) (cond b o None)
first_read true x (Some xs) = refl
first_read true x None = refl
first_read false x o = refl

differs : (a b : ℕ) → (a ≡ b → ⊥) → (a == b) ≡ false
differs a b other = false_from_ne_true _ (λ e. other (eqb-true a b e))

-- both one more
both_more : (a b : ℕ) → (suc a == suc b) ≡ (a == b)
both_more a b = by_test (a == b) refl
  where
    by_test : (t : Bool) → (a == b) ≡ t → (suc a == suc b) ≡ t
    by_test true e = let same = eqb-true a b e in eq-eqb (suc a) (suc b) (omega (arith, same))
    by_test false e = differs (suc a) (suc b) (λ same. let t = eq-eqb a b (omega (arith, same)) in false≢true (sym e ∙ t))

pub cut_next : (n : ℕ) (f : List ℕ) (fs : List (List ℕ)) (x : ℕ) → seq_in f ≡ Some x → cut_in (suc n) (f ∷ fs) ≡ option_map (λ cut. x ∷ cut) (cut_in n fs)
cut_next n f fs x e =
    ap₂ (λ b o. cond b (with_first o (all_some (map seq_in fs))) None) (both_more (length fs) n) e
    ∙ first_read (length fs == n) x (all_some (map seq_in fs))

pub cut_bad : (n : ℕ) (f : List ℕ) (fs : List (List ℕ)) → seq_in f ≡ None → cut_in n (f ∷ fs) ≡ None
cut_bad n f fs e = ap (λ o. cond (suc (length fs) == n) (with_first o (all_some (map seq_in fs))) None) e ∙ none_both (suc (length fs) == n)
  where
    none_both : (b : Bool) → ◌≡◌ {A = Option (List ℕ)} (cond b None None) None
    none_both true = refl
    none_both false = refl

pub cut_few : (n : ℕ) (f : List ℕ) → 2 ≤ n → cut_in n (f ∷ []) ≡ None
cut_few n f more = cond-false (1 == n) _ _ (differs 1 n (λ same. omega (arith, same, more)))

pub cut_many : (f : List ℕ) (fs : List (List ℕ)) → 1 ≤ length fs → cut_in 1 (f ∷ fs) ≡ None
cut_many f fs some = cond-false (suc (length fs) == 1) _ _ (differs (suc (length fs)) 1 (λ same. omega (arith, same, some)))

pub cut_last : (f : List ℕ) (x : ℕ) → seq_in f ≡ Some x → cut_in 1 (f ∷ []) ≡ Some (x ∷ [])
cut_last f x e = ap (λ o. with_first o (Some [])) e

-- one more sequence stands before the others
pub before_more : (before : List ℕ) (x : ℕ) (o : Option (List ℕ)) → read_before before (option_map (λ cut. x ∷ cut) o) ≡ read_before (before ++ x ∷ []) o
before_more before x (Some cut) = ap Some (sym (append_assoc before (x ∷ []) cut))
before_more before x None = refl

-- What was read of the line, and what is read of the rest, are the cut.
pub record IsReadSoFar (agents : ℕ) (line : List ℕ) (count : ℕ) (before rest : List ℕ) : Type 0 where
  pub same : cut_in agents (fields_in line) ≡ read_before before (cut_in (agents - count) (fields_in rest))

pub read_none : (agents : ℕ) (line : List ℕ) → IsReadSoFar agents line 0 [] line
read_none agents line = record { same = none (cut_in agents (fields_in line)) ∙ ap (λ n. read_before [] (cut_in n (fields_in line))) (omega arith) }
  where
    none : (o : Option (List ℕ)) → o ≡ read_before [] o
    none None = refl
    none (Some cut) = refl

pub read_one : (agents : ℕ) (line : List ℕ) (count : ℕ) (before rest f behind : List ℕ) (x : ℕ) → count < agents → IsReadSoFar agents line count before rest →
    fields_in rest ≡ f ∷ fields_in behind → seq_in f ≡ Some x → IsReadSoFar agents line (suc count) (before ++ x ∷ []) behind
read_one agents line count before rest f behind x low here fields read =
    let more : agents - count ≡ suc (agents - suc count) = omega arith in
    record {
      same =
          here.same
          ∙ ap₂ (λ n fs. read_before before (cut_in n fs)) more fields
          ∙ ap (read_before before) (cut_next (agents - suc count) f (fields_in behind) x read)
          ∙ before_more before x (cut_in (agents - suc count) (fields_in behind));
    }

-- why there is no cut
pub read_ends_early : (agents : ℕ) (line : List ℕ) (count : ℕ) (before rest : List ℕ) → suc count < agents → IsReadSoFar agents line count before rest → fields_in rest ≡ rest ∷ [] → cut_in agents (fields_in line) ≡ None
read_ends_early agents line count before rest low here fields =
    here.same ∙ ap (λ fs. read_before before (cut_in (agents - count) fs)) fields ∙ ap (read_before before) (cut_few (agents - count) rest (omega (arith, low)))

pub read_bad : (agents : ℕ) (line : List ℕ) (count : ℕ) (before rest f : List ℕ) (fs : List (List ℕ)) → IsReadSoFar agents line count before rest → fields_in rest ≡ f ∷ fs → seq_in f ≡ None → cut_in agents (fields_in line) ≡ None
read_bad agents line count before rest f fs here fields bad =
    here.same ∙ ap (λ gs. read_before before (cut_in (agents - count) gs)) fields ∙ ap (read_before before) (cut_bad (agents - count) f fs bad)

pub read_goes_on : (agents : ℕ) (line : List ℕ) (count : ℕ) (before rest f behind : List ℕ) → suc count ≡ agents → IsReadSoFar agents line count before rest → fields_in rest ≡ f ∷ fields_in behind → cut_in agents (fields_in line) ≡ None
read_goes_on agents line count before rest f behind last here fields =
    let one : agents - count ≡ 1 = omega (arith, last) in
    here.same ∙ ap₂ (λ n fs. read_before before (cut_in n fs)) one fields ∙ ap (read_before before) (cut_many f (fields_in behind) (omega (arith, length-slice_split (λ (c : ℕ). c == 124) behind)))

pub read_last : (agents : ℕ) (line : List ℕ) (count : ℕ) (before rest : List ℕ) (x : ℕ) → suc count ≡ agents → IsReadSoFar agents line count before rest → fields_in rest ≡ rest ∷ [] → seq_in rest ≡ Some x → cut_in agents (fields_in line) ≡ Some (before ++ x ∷ [])
read_last agents line count before rest x last here fields read =
    let one : agents - count ≡ 1 = omega (arith, last) in
    here.same ∙ ap₂ (λ n fs. read_before before (cut_in n fs)) one fields ∙ ap (read_before before) (cut_last rest x read)

-- what an option has, by whether it has something
pub at_none : {A : Type 0} (o : Option A) (P : Type 0) (Q : A → Type 0) → MatchOption o P Q → is_some o ≡ false → P
at_none None P Q h e = h
at_none (Some x) P Q h e = absurd (cc)

pub at_some : {A : Type 0} (o : Option A) (P : Type 0) (Q : A → Type 0) → MatchOption o P Q → is_some o ≡ true → (x : A) × Q x
at_some None P Q h e = absurd (cc)
at_some (Some x) P Q h e = (x, h)

-- what is read is a cut
pub read_is_cut : (agents : ℕ) (line : List ℕ) (cut : List ℕ) → 1 ≤ agents → agents ≤ 64 → cut_in agents (fields_in line) ≡ Some cut → IsCut cut
read_is_cut agents line cut some most e =
    let among = (cut_read agents line cut e).1 in
    let size = among.size in
    record { agents_from = omega (arith, size, some); agents_to = omega (arith, size, most); entries = among.low }

-- ---- writing

-- a text joined, with one part more behind it
pub join_more : (t : List ℕ) (ts : List (List ℕ)) (u : List ℕ) → join_with_byte 124 ((t ∷ ts) ++ u ∷ []) ≡ join_with_byte 124 (t ∷ ts) ++ 124 ∷ u
join_more t [] u = refl
join_more t (s ∷ ts) u = ap (λ r. t ++ 124 ∷ r) (join_more s ts u) ∙ sym (append_assoc t (124 ∷ join_with_byte 124 (s ∷ ts)) (124 ∷ u))

take_more : (xs : List ℕ) (k : ℕ) → k < length xs → take (suc k) xs ≡ take k xs ++ get_or xs k 0 ∷ []
take_more [] k low = absurd (omega (arith, low))
take_more (x ∷ xs) zero low = refl
take_more (x ∷ xs) (suc k) low = ap (λ ys. x ∷ ys) (take_more xs k (omega (arith, low)))

map_more : (xs : List ℕ) (x : ℕ) → map decimal (xs ++ x ∷ []) ≡ map decimal xs ++ decimal x ∷ []
map_more [] x = refl
map_more (y ∷ ys) x = ap (λ ts. decimal y ∷ ts) (map_more ys x)

-- one more sequence of a line
pub put_more : (first : ℕ) (others entries : List ℕ) (k : ℕ) → entries ≡ first ∷ others → k < length others →
    join_with_byte 124 (map decimal (take (k + 1) entries)) ++ 124 ∷ decimal (get_or others k 0) ≡ join_with_byte 124 (map decimal (take (k + 1 + 1) entries))
put_more first others entries k is low =
    let one : k + 1 ≡ suc k = omega arith in
    let two : k + 1 + 1 ≡ suc (suc k) = omega arith in
    let line = λ (n : ℕ) (es : List ℕ). join_with_byte 124 (map decimal (take n es)) in
    ap₂ (λ n es. line n es ++ 124 ∷ decimal (get_or others k 0)) one is
    ∙ sym (join_more (decimal first) (map decimal (take k others)) (decimal (get_or others k 0)))
    ∙ ap (λ ts. join_with_byte 124 (decimal first ∷ ts)) (sym (map_more (take k others) (get_or others k 0)))
    ∙ ap (λ xs. join_with_byte 124 (decimal first ∷ map decimal xs)) (sym (take_more others k low))
    ∙ ap₂ line (sym two) (sym is)
