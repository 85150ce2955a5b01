-- What a shelf has from a sequence on, in its two parts.
use Rattle.std.proofs.Common.{◌≡◌, ℕ, zero, suc, ◌+◌, ◌-◌, ◌<◌, ◌≤◌, cond, List, [], ◌∷◌, ◌++◌, length, filter, refl, sym, ap, subst, ◌∙◌, arith, inl, inr, get_or, drop, drop-cons, max}
use Rattle.std.specs.Prelude.{nat_le}
use Rattle.std.proofs.lemmas.Bool.{cases_lt, cond-true, cond-false, cond_both, le-leb, lt-leb}
use Rattle.std.proofs.lemmas.List.{length-map}
use Rattle.metering_model.specs.Batch.{Batch}
use Rattle.metering_model.specs.Holding.{Holding}
use Rattle.batch_store.specs.Inner.Shelves.{Shared, Filed, batch_shared, batches_shared, batches_filed, from_seq, AreCounted, AreFiled, Rises, on_shelf, IsShelf, on_shelves, left_from}
use Rattle.batch_store.proofs.ShelfLemmas.{shelf_rises}

from_kept : (s : ℕ) (b : Batch) (h : Holding) → s ≤ b.seq → from_seq s (b ∷ h) ≡ b ∷ from_seq s h
from_kept s b h low = cond-true (nat_le s b.seq) (b ∷ from_seq s h) (from_seq s h) (le-leb s b.seq low)

from_past : (s : ℕ) (b : Batch) (h : Holding) → b.seq < s → from_seq s (b ∷ h) ≡ from_seq s h
from_past s b h high = cond-false (nat_le s b.seq) (b ∷ from_seq s h) (from_seq s h) (lt-leb s b.seq high)

all_from : (n s : ℕ) (h : Holding) → Rises n h → s ≤ n → from_seq s h ≡ h
all_from n s [] r less = refl
all_from n s (b ∷ h) r less = from_kept s b h (omega (arith, r.0, less)) ∙ ap (λ k. b ∷ k) (all_from (b.seq + 1) s h r.1 (omega (arith, r.0, less)))

-- behind the first come those from the next sequence on
behind_first : (n s : ℕ) (h rest : Holding) (b : Batch) → Rises n h → from_seq s h ≡ b ∷ rest → (n ≤ b.seq) × (rest ≡ from_seq (b.seq + 1) h)
behind_first n s [] rest b r e = absurd (cc)
behind_first n s (x ∷ h) rest b r e = elim (cases_lt x.seq s) [
  | inl past ↦
      let later = behind_first (x.seq + 1) s h rest b r.1 (sym (from_past s x h past) ∙ e) in
      (omega (arith, r.0, later.0), later.1 ∙ sym (from_past (b.seq + 1) x h (omega (arith, later.0))))
  | inr within ↦
      let here : x ∷ from_seq s h ≡ b ∷ rest = sym (from_kept s x h within) ∙ e in
      let same : x ≡ b = cc in
      let left : from_seq s h ≡ rest = cc in
      let all = all_from (x.seq + 1) s h r.1 (omega (arith, within)) ∙ sym (all_from (x.seq + 1) (x.seq + 1) h r.1 (omega arith)) in
      (subst (λ (c : Batch). n ≤ c.seq) same r.0, subst (λ (c : Batch). rest ≡ from_seq (c.seq + 1) (x ∷ h)) same (sym left ∙ (all ∙ sym (from_past (x.seq + 1) x h (omega arith)))))
]

from_counted : (n k : ℕ) (xs : List Shared) (rest : Holding) (x : Shared) → AreCounted n (batches_shared xs) → k < length xs → (left : Holding) × (from_seq (n + k) (batches_shared xs ++ rest) ≡ batch_shared (get_or xs k x) ∷ left)
from_counted n k [] rest x c less = absurd (omega (arith, less))
from_counted n zero (y ∷ xs) rest x c less = (from_seq (n + 0) (batches_shared xs ++ rest), from_kept (n + 0) (batch_shared y) (batches_shared xs ++ rest) (omega (arith, c.0)))
from_counted n (suc k) (y ∷ xs) rest x c less =
    let next : n + suc k ≡ n + 1 + k = omega arith in
    let later = from_counted (n + 1) k xs rest x c.1 (omega (arith, less)) in
    (later.0, from_past (n + suc k) (batch_shared y) (batches_shared xs ++ rest) (omega (arith, c.0)) ∙ (ap (λ s. from_seq s (batches_shared xs ++ rest)) next ∙ later.1))

past_counted : (n s : ℕ) (h rest : Holding) → AreCounted n h → n + length h ≤ s → from_seq s (h ++ rest) ≡ from_seq s rest
past_counted n s [] rest c high = refl
past_counted n s (b ∷ h) rest c high = from_past s b (h ++ rest) (omega (arith, c.0, high)) ∙ past_counted (n + 1) s h rest c.1 (omega (arith, high))

abbrev pub filed_from : ℕ → List Filed → List Filed
filed_from s es = filter (λ e. nat_le s e.0) es

from_filed : (n s : ℕ) (es : List Filed) → AreFiled n es → from_seq s (batches_filed es) ≡ batches_filed (filed_from s es)
from_filed n s [] f = refl
from_filed n s (e ∷ es) f =
    let rest = from_filed (e.0 + 1) s es f.3 in
    ap (λ q. cond (nat_le s q) (batch_shared e.1 ∷ from_seq s (batches_filed es)) (from_seq s (batches_filed es))) f.2
    ∙ cond_both (nat_le s e.0) (e ∷ filed_from s es) (filed_from s es) (λ xs. cond (nat_le s e.0) (batch_shared e.1 ∷ from_seq s (batches_filed es)) (from_seq s (batches_filed es)) ≡ batches_filed xs)
    (λ t. cond-true (nat_le s e.0) _ _ t ∙ ap (λ xs. batch_shared e.1 ∷ xs) rest)
    (λ t. cond-false (nat_le s e.0) _ _ t ∙ rest)

module _ (whole : List Shared) (ahead : List Filed) (h : Holding) (s : ℕ) (same : on_shelf whole ahead ≡ h) (is : IsShelf whole ahead) where
  first_is : (b : Batch) (rest : Holding) → from_seq s (on_shelf whole ahead) ≡ b ∷ rest → from_seq s h ≡ b ∷ from_seq (b.seq + 1) h
  first_is b rest e = subst (λ k. from_seq s k ≡ b ∷ from_seq (b.seq + 1) k) same (e ∙ ap (λ k. b ∷ k) (behind_first 1 s (on_shelf whole ahead) rest b (shelf_rises whole ahead is) e).1)

  pub first_whole : (x : Shared) → 1 ≤ s → s ≤ length whole → x ≡ get_or whole (s - 1) x → from_seq s h ≡ batch_shared x ∷ from_seq ((batch_shared x).seq + 1) h
  first_whole x low high e =
      let place : 1 + (s - 1) ≡ s = omega (arith, low) in
      let first = from_counted 1 (s - 1) whole (batches_filed ahead) x is.counted (omega (arith, low, high)) in
      first_is (batch_shared x) first.0 (ap (λ n. from_seq n (on_shelf whole ahead)) (sym place) ∙ (first.1 ∙ ap (λ y. batch_shared y ∷ first.0) (sym e)))

  later_is : length whole < s → from_seq s (on_shelf whole ahead) ≡ batches_filed (filed_from s ahead)
  later_is high = past_counted 1 s (batches_shared whole) (batches_filed ahead) is.counted (omega (arith, high, length-map whole batch_shared)) ∙ from_filed (length whole + 1) s ahead is.filed

  pub first_later : (e : Filed) (es : List Filed) → length whole < s → filed_from s ahead ≡ e ∷ es → from_seq s h ≡ batch_shared e.1 ∷ from_seq ((batch_shared e.1).seq + 1) h
  first_later e es high is_first = first_is (batch_shared e.1) (batches_filed es) (later_is high ∙ ap batches_filed is_first)

  pub no_later : length whole < s → filed_from s ahead ≡ [] → from_seq s h ≡ []
  no_later high none = subst (λ k. from_seq s k ≡ []) same (later_is high ∙ ap batches_filed none)

-- sequences count from 1, so from 0 on is from 1 on
pub from_least : (whole : List Shared) (ahead : List Filed) (h : Holding) (s m : ℕ) → on_shelf whole ahead ≡ h → IsShelf whole ahead → m ≡ max s 1 → from_seq m h ≡ from_seq s h
from_least whole ahead h s m same is e = elim (cases_lt 0 s) [
  | inl above ↦ let here : m ≡ s = omega (arith, e, above) in ap (λ n. from_seq n h) here
  | inr none ↦
      let rises = subst (Rises 1) same (shelf_rises whole ahead is) in
      all_from 1 m h rises (omega (arith, e, none)) ∙ sym (all_from 1 s h rises (omega (arith, none)))
]

-- ---- a walk over the shelves

all_left : (h : Holding) → from_seq 0 h ≡ h
all_left [] = refl
all_left (b ∷ h) = from_kept 0 b h (omega arith) ∙ ap (λ k. b ∷ k) (all_left h)

pub all_shelves : (xs : List Holding) → left_from 0 xs ≡ on_shelves xs
all_shelves [] = refl
all_shelves (x ∷ xs) = ap (λ h. h ++ on_shelves xs) (all_left x)

-- the shelf at i is the first of what is left
pub left_at : (xs : List Holding) (i s : ℕ) (x : Holding) → i < length xs → x ≡ get_or xs i x → left_from s (drop i xs) ≡ from_seq s x ++ on_shelves (drop (i + 1) xs)
left_at xs i s x less e =
    let more : suc i ≡ i + 1 = omega arith in
    ap (left_from s) (drop-cons xs i x less ∙ (ap (λ n. get_or xs i x ∷ drop n xs) more ∙ ap (λ z. z ∷ drop (i + 1) xs) (sym e)))

pub left_next : (xs : List Holding) (i s : ℕ) (x all : Holding) → i < length xs → x ≡ get_or xs i x → from_seq s x ≡ [] → left_from s (drop i xs) ≡ all → left_from 0 (drop (i + 1) xs) ≡ all
left_next xs i s x all less e none so = all_shelves (drop (i + 1) xs) ∙ (sym (left_at xs i s x less e ∙ ap (λ h. h ++ on_shelves (drop (i + 1) xs)) none) ∙ so)

pub left_given : (xs : List Holding) (i s t : ℕ) (x all : Holding) (b : Batch) → i < length xs → x ≡ get_or xs i x → t ≡ b.seq + 1 → from_seq s x ≡ b ∷ from_seq (b.seq + 1) x → left_from s (drop i xs) ≡ all → all ≡ b ∷ left_from t (drop i xs)
left_given xs i s t x all b less e next first so =
    sym so ∙ (left_at xs i s x less e ∙ (ap (λ h. h ++ on_shelves (drop (i + 1) xs)) first
    ∙ ap (λ h. b ∷ h) (sym (left_at xs i t x less e ∙ ap (λ n. from_seq n x ++ on_shelves (drop (i + 1) xs)) next))))
