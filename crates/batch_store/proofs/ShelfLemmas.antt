-- The batches of one agent: those counted from the first on, and those filed ahead of a gap.
use Rattle.std.proofs.Common.{Bor, Option, ◌≡◌, ℕ, zero, suc, ◌+◌, ◌<◌, ◌≤◌, ◌⊎◌, true, false, List, [], ◌∷◌, ◌++◌, length, Some, None, refl, sym, ap, subst, ◌∙◌, arith, inl, inr, get_or, ◌-◌, length-append, append_assoc, option_map, is_some}
use Rattle.std.specs.Prelude.{slice_get, ◌==◌}
use Rattle.std.specs.Ordering.{nat_cmp, match_ordering}
use Rattle.std.specs.declared.cmp.Ordering.TheVariants.{Less, Equal, Greater}
use Rattle.std.specs.Map.{lookup}
use Rattle.std.specs.BTreeMap.{is_at, insert_entry}
use Rattle.std.proofs.lemmas.Bool.{cases_Bool, cases_lt, cond-true, cond-false, eq-eqb, eqb-true, both_ways}
use Rattle.std.proofs.lemmas.Bool.Decides.{nat_tests}
use Rattle.std.proofs.lemmas.Option.{same_Some, none-some}
use Rattle.std.proofs.lemmas.List.{length-map, map-append}
use Rattle.std.specs.Option.{option_copied}
use Rattle.metering_model.specs.Batch.{Batch}
use Rattle.batch_view.specs.Batches.{batch_of}
use Rattle.metering_model.specs.Holding.{Holding, comes_before, put}
use Rattle.batch_store.specs.Inner.Shelves.{Shared, Filed, batch_shared, batches_shared, batches_filed, at_seq, AreCounted, Rises, AreFiled, IsShelf, on_shelf, AreOf}

-- ---- what is at a sequence

-- a first batch of another sequence is passed over
at_past : (b : Batch) (h : Holding) (s : ℕ) → (b.seq ≡ s → ⊥) → at_seq (b ∷ h) s ≡ at_seq h s
at_past b h s other = elim (cases_Bool (b.seq == s)) [
  | inl t ↦ absurd (other (eqb-true b.seq s t))
  | inr f ↦ cond-false (b.seq == s) (Some b) (at_seq h s) f
]

at_first : (b : Batch) (h : Holding) (s : ℕ) → b.seq ≡ s → at_seq (b ∷ h) s ≡ Some b
at_first b h s same = cond-true (b.seq == s) (Some b) (at_seq h s) (eq-eqb b.seq s same)

rises_less : (m n : ℕ) (h : Holding) → m ≤ n → Rises n h → Rises m h
rises_less m n [] less r = tt
rises_less m n (b ∷ h) less r = (omega (arith, r.0), r.1)

pub none_below : (n s : ℕ) (h : Holding) → Rises n h → s < n → at_seq h s ≡ None
none_below n s [] r less = refl
none_below n s (b ∷ h) r less =
    at_past b h s (λ same. omega (arith, r.0, same)) ∙ none_below (b.seq + 1) s h r.1 (omega (arith, r.0))

-- ---- without a gap

counted_at : (n k : ℕ) (xs : List Shared) (rest : Holding) (x : Shared) → AreCounted n (batches_shared xs) → k < length xs → at_seq (batches_shared xs ++ rest) (n + k) ≡ Some (batch_shared (get_or xs k x))
counted_at n k [] rest x c less = absurd (omega arith)
counted_at n zero (y ∷ xs) rest x c less = at_first (batch_shared y) (batches_shared xs ++ rest) (n + 0) (omega (arith, c.0))
counted_at n (suc k) (y ∷ xs) rest x c less =
    let next : n + suc k ≡ n + 1 + k = omega arith in
    at_past (batch_shared y) (batches_shared xs ++ rest) (n + suc k) (λ same. omega (arith, c.0, same))
    ∙ (ap (at_seq (batches_shared xs ++ rest)) next ∙ counted_at (n + 1) k xs rest x c.1 (omega arith))

pub counted_some : (n s : ℕ) (h rest : Holding) → AreCounted n h → n ≤ s → s < n + length h → is_some (at_seq (h ++ rest) s) ≡ true
counted_some n s [] rest c low high = absurd (omega arith)
counted_some n s (x ∷ h) rest c low high = elim (cases_lt n s) [
  | inl above ↦ ap is_some (at_past x (h ++ rest) s (λ same. omega (arith, c.0, same))) ∙ counted_some (n + 1) s h rest c.1 (omega arith) (omega arith)
  | inr here ↦ ap is_some (at_first x (h ++ rest) s (omega (arith, c.0)))
]

pub counted_none : (n s : ℕ) (h rest : Holding) → AreCounted n h → (s < n) ⊎ (n + length h ≤ s) → at_seq (h ++ rest) s ≡ at_seq rest s
counted_none n s [] rest c out = refl
counted_none n s (x ∷ h) rest c out =
    at_past x (h ++ rest) s (λ same. elim out [ inl low ↦ omega (arith, c.0, same) | inr high ↦ omega (arith, c.0, same) ])
    ∙ counted_none (n + 1) s h rest c.1 (elim out [ inl low ↦ inl (omega arith) | inr high ↦ inr (omega arith) ])

pub counted_rises : (n : ℕ) (h rest : Holding) → AreCounted n h → Rises (n + length h) rest → Rises n (h ++ rest)
counted_rises n [] rest c r = rises_less n (n + 0) rest (omega arith) r
counted_rises n (x ∷ h) rest c r =
    let next : n + suc (length h) ≡ x.seq + 1 + length h = omega (arith, c.0) in
    let more : n + 1 ≡ x.seq + 1 = omega (arith, c.0) in
    (omega (arith, c.0), counted_rises (x.seq + 1) h rest (subst (λ m. AreCounted m h) more c.1) (subst (λ m. Rises m rest) next r))

pub counted_push : (n : ℕ) (h : Holding) (b : Batch) → AreCounted n h → b.seq ≡ n + length h → AreCounted n (h ++ b ∷ [])
counted_push n [] b c e = (omega (arith, e), tt)
counted_push n (x ∷ h) b c e = (c.0, counted_push (n + 1) h b c.1 (omega (arith, e)))

-- ---- ahead of a gap

pub filed_rises : (n : ℕ) (es : List Filed) → AreFiled n es → Rises n (batches_filed es)
filed_rises n [] f = tt
filed_rises n (e ∷ es) f =
    let same : e.0 + 1 ≡ (batch_shared e.1).seq + 1 = omega (arith, f.2) in
    (omega (arith, f.0, f.2), subst (λ m. Rises m (batches_filed es)) same (filed_rises (e.0 + 1) es f.3))

cmp_less : (x y : ℕ) → x < y → nat_cmp x y ≡ Less
cmp_less x y less = grind (arith, nat_tests)

pub cmp_greater : (x y : ℕ) → y < x → nat_cmp x y ≡ Greater
cmp_greater x y less = grind (arith, nat_tests)

cmp_equal : (x y : ℕ) → x ≡ y → nat_cmp x y ≡ Equal
cmp_equal x y same = grind (arith, nat_tests)

is_at_same : (x y : ℕ) → is_at (nat_cmp x) y ≡ (y == x)
is_at_same x y = grind (arith, nat_tests)

-- what the map finds is what is there
pub found_filed : (n s : ℕ) (es : List Filed) → AreFiled n es → option_map batch_shared (lookup (is_at (nat_cmp s)) es) ≡ at_seq (batches_filed es) s
found_filed n s [] f = refl
found_filed n s (e ∷ es) f = elim (cases_Bool (e.0 == s)) [
  | inl t ↦ ap (option_map batch_shared) (cond-true (is_at (nat_cmp s) e.0) (Some e.1) _ (is_at_same s e.0 ∙ t)) ∙ sym (at_first (batch_shared e.1) (batches_filed es) s (f.2 ∙ eqb-true e.0 s t))
  | inr t ↦ ap (option_map batch_shared) (cond-false (is_at (nat_cmp s) e.0) (Some e.1) _ (is_at_same s e.0 ∙ t))
      ∙ (found_filed (e.0 + 1) s es f.3 ∙ sym (at_past (batch_shared e.1) (batches_filed es) s (λ same. both_ways (e.0 == s) t (eq-eqb e.0 s (sym f.2 ∙ same)))))
]

pub filed_limit : (n s : ℕ) (es : List Filed) → AreFiled n es → 1_000_000 < s → at_seq (batches_filed es) s ≡ None
filed_limit n s [] f high = refl
filed_limit n s (e ∷ es) f high = at_past (batch_shared e.1) (batches_filed es) s (λ same. omega (arith, f.1, f.2, same)) ∙ filed_limit (e.0 + 1) s es f.3 high

-- where nothing is at the first sequence, all are above it
pub filed_above : (n : ℕ) (es : List Filed) → AreFiled n es → at_seq (batches_filed es) n ≡ None → AreFiled (n + 1) es
filed_above n [] f none = tt
filed_above n (e ∷ es) f none = elim (cases_lt n e.0) [
  | inl above ↦ (omega arith, f.1, f.2, f.3)
  | inr here ↦ absurd (none-some (batch_shared e.1) (sym none ∙ at_first (batch_shared e.1) (batches_filed es) n (omega (arith, f.0, f.2))))
]

-- ---- what is put

before_less : (b c : Batch) → b.agent ≡ c.agent → b.seq < c.seq → comes_before b c ≡ true
before_less b c e less = grind (arith, nat_tests)

not_before : (b c : Batch) → b.agent ≡ c.agent → c.seq ≤ b.seq → comes_before b c ≡ false
not_before b c e less = grind (arith, nat_tests)

pub put_front : (b : Batch) (h : Holding) → AreOf b.agent h → Rises (b.seq + 1) h → put h b ≡ b ∷ h
put_front b [] of r = refl
put_front b (c ∷ h) of r = cond-true (comes_before b c) _ _ (before_less b c (sym of.0) (omega (arith, r.0)))

put_later : (b c : Batch) (h : Holding) → c.agent ≡ b.agent → c.seq < b.seq → put (c ∷ h) b ≡ c ∷ put h b
put_later b c h e less =
    cond-false (comes_before b c) _ _ (not_before b c (sym e) (omega arith)) ∙ cond-true (comes_before c b) _ _ (before_less c b e less)

of_rest : (agent : ℕ) (xs rest : Holding) → AreOf agent (xs ++ rest) → AreOf agent rest
of_rest agent [] rest of = of
of_rest agent (x ∷ xs) rest of = of_rest agent xs rest of.1

-- behind those without a gap
pub put_behind : (n : ℕ) (xs rest : Holding) (b : Batch) → AreOf b.agent (xs ++ rest) → AreCounted n xs → n + length xs ≤ b.seq → put (xs ++ rest) b ≡ xs ++ put rest b
put_behind n [] rest b of c high = refl
put_behind n (x ∷ xs) rest b of c high =
    put_later b x (xs ++ rest) of.0 (omega (arith, c.0)) ∙ ap (λ h. x ∷ h) (put_behind (n + 1) xs rest b of.1 c.1 (omega arith))

-- a batch that is there stays
pub put_there : (n : ℕ) (h : Holding) (b : Batch) → AreOf b.agent h → Rises n h → is_some (at_seq h b.seq) ≡ true → put h b ≡ h
put_there n [] b of r there = absurd (both_ways false refl there)
put_there n (c ∷ h) b of r there = elim (cases_lt c.seq b.seq) [
  | inl later ↦ put_later b c h of.0 later
      ∙ ap (λ k. c ∷ k) (put_there (c.seq + 1) h b of.1 r.1 (ap is_some (sym (at_past c h b.seq (λ same. omega (arith, same)))) ∙ there))
  | inr not ↦ elim (cases_lt b.seq c.seq) [
    | inl below ↦ absurd (both_ways _ (ap is_some (none_below c.seq b.seq (c ∷ h) (omega arith, r.1) below)) there)
    | inr here ↦ cond-false (comes_before b c) _ _ (not_before b c (sym of.0) (omega arith)) ∙ cond-false (comes_before c b) _ _ (not_before c b of.0 (omega arith))
  ]
]

pub record IsInserted (n : ℕ) (es : List Filed) (a : Shared) (now : List Filed) : Type 0 where
  pub filed : AreFiled n now
  pub put : batches_filed now ≡ put (batches_filed es) (batch_shared a)

-- what the map has with one more
pub inserted : (n : ℕ) (es : List Filed) (a : Shared) → AreOf (batch_shared a).agent (batches_filed es) → AreFiled n es → n ≤ (batch_shared a).seq → (batch_shared a).seq ≤ 1_000_000
    → at_seq (batches_filed es) (batch_shared a).seq ≡ None → IsInserted n es a (insert_entry nat_cmp es (batch_shared a).seq a)
inserted n [] a of f low high none = record { filed = (low, high, refl, tt); put = refl }
inserted n (e ∷ es) a of f low high none = elim (cases_lt (batch_shared a).seq e.0) [
  | inl below ↦
      let now = ap (λ o. match_ordering o ((s, a) ∷ e ∷ es) ((e.0, a) ∷ es) (e ∷ insert_entry nat_cmp es s a)) (cmp_less s e.0 below) in
      subst (IsInserted n (e ∷ es) a) (sym now) (record {
        filed = (low, high, refl, (omega arith, f.1, f.2, f.3));
        put = sym (put_front (batch_shared a) (batches_filed (e ∷ es)) of (omega (arith, f.2), (filed_rises (e.0) (e ∷ es) (omega arith, f.1, f.2, f.3)).1));
      })
  | inr not ↦ elim (cases_lt e.0 s) [
    | inl above ↦
        let now = ap (λ o. match_ordering o ((s, a) ∷ e ∷ es) ((e.0, a) ∷ es) (e ∷ insert_entry nat_cmp es s a)) (cmp_greater s e.0 above) in
        let rest = inserted (e.0 + 1) es a of.1 f.3 (omega arith) high (sym (at_past (batch_shared e.1) (batches_filed es) s (λ same. omega (arith, f.2, same))) ∙ none) in
        subst (IsInserted n (e ∷ es) a) (sym now) (record {
          filed = (f.0, f.1, f.2, rest.filed);
          put = ap (λ h. batch_shared e.1 ∷ h) rest.put ∙ sym (put_later (batch_shared a) (batch_shared e.1) (batches_filed es) of.0 (omega (arith, f.2)));
        })
    | inr here ↦ absurd (none-some (batch_shared e.1) (sym none ∙ at_first (batch_shared e.1) (batches_filed es) s (omega (arith, f.2))))
  ]
]
  where
    s : ℕ
    s = (batch_shared a).seq

-- ---- a shelf

pub is_at_whole : (whole : List Shared) (ahead : List Filed) (s : ℕ) (x : Shared) → IsShelf whole ahead → 1 ≤ s → s ≤ length whole → x ≡ get_or whole (s - 1) x → at_seq (on_shelf whole ahead) s ≡ Some (batch_shared x)
is_at_whole whole ahead s x is low high e =
    let place : 1 + (s - 1) ≡ s = omega arith in
    ap (at_seq (on_shelf whole ahead)) (sym place) ∙ (counted_at 1 (s - 1) whole (batches_filed ahead) x is.counted (omega arith) ∙ ap (λ y. Some (batch_shared y)) (sym e))

pub is_at_ahead : (whole : List Shared) (ahead : List Filed) (s : ℕ) → IsShelf whole ahead → (s < 1) ⊎ (length whole < s) → option_map batch_shared (lookup (is_at (nat_cmp s)) ahead) ≡ at_seq (on_shelf whole ahead) s
is_at_ahead whole ahead s is out =
    found_filed (length whole + 1) s ahead is.filed ∙ sym (counted_none 1 s (batches_shared whole) (batches_filed ahead) is.counted (elim out [ inl low ↦ inl low | inr high ↦ inr (omega (arith, length-map whole batch_shared)) ]))

pub none_at_zero : (whole : List Shared) (ahead : List Filed) → IsShelf whole ahead → at_seq (on_shelf whole ahead) 0 ≡ None
none_at_zero whole ahead is =
    sym (is_at_ahead whole ahead 0 is (inl (omega arith))) ∙ (found_filed (length whole + 1) 0 ahead is.filed ∙ none_below (length whole + 1) 0 (batches_filed ahead) (filed_rises (length whole + 1) ahead is.filed) (omega arith))

pub mapped_is_some : {X Y : Type 0} (f : X → Y) (o : Option X) → is_some (option_map f o) ≡ is_some o
mapped_is_some f None = refl
mapped_is_some f (Some x) = refl

-- whether the map has it is whether it is there
pub is_there_ahead : (whole : List Shared) (ahead : List Filed) (s : ℕ) → IsShelf whole ahead → length whole < s → is_some (at_seq (on_shelf whole ahead) s) ≡ is_some (lookup (is_at (nat_cmp s)) ahead)
is_there_ahead whole ahead s is high = ap is_some (sym (is_at_ahead whole ahead s is (inr high))) ∙ mapped_is_some batch_shared (lookup (is_at (nat_cmp s)) ahead)

pub none_where_false : (o : Option Batch) → is_some o ≡ false → o ≡ None
none_where_false None e = refl
none_where_false (Some b) e = absurd (cc)

pub all_at_whole : (whole : List Shared) (ahead : List Filed) (s : ℕ) → IsShelf whole ahead → 1 ≤ s → s ≤ length whole → is_some (at_seq (on_shelf whole ahead) s) ≡ true
all_at_whole whole ahead s is low high = counted_some 1 s (batches_shared whole) (batches_filed ahead) is.counted low (omega (arith, length-map whole batch_shared))

-- no batch is above the greatest sequence
pub none_beyond : (whole : List Shared) (ahead : List Filed) (s : ℕ) → IsShelf whole ahead → 1_000_000 < s → at_seq (on_shelf whole ahead) s ≡ None
none_beyond whole ahead s is high =
    let short = is.short in
    sym (is_at_ahead whole ahead s is (inr (omega arith))) ∙ (found_filed (length whole + 1) s ahead is.filed ∙ filed_limit (length whole + 1) s ahead is.filed high)

-- the first batch of the map, where it comes next, stands as well behind those without a gap
pub moved : (whole : List Shared) (e : Filed) (es : List Filed) → IsShelf whole (e ∷ es) → e.0 ≡ length whole + 1 → IsShelf (whole ++ e.1 ∷ []) es
moved whole e es is next = record {
  counted = subst (AreCounted 1) (sym (map-append batch_shared whole (e.1 ∷ []))) (counted_push 1 (batches_shared whole) (batch_shared e.1) is.counted (omega (arith, is.filed.2, next, length-map whole batch_shared)));
  short = let more = length-append whole (e.1 ∷ []) in omega (arith, more, next, is.filed.1);
  filed = let more = length-append whole (e.1 ∷ []) in let same : e.0 + 1 ≡ length (whole ++ e.1 ∷ []) + 1 = omega (arith, more, next) in subst (λ n. AreFiled n es) same is.filed.3;
}

pub moved_same : (whole : List Shared) (e : Filed) (es : List Filed) → on_shelf (whole ++ e.1 ∷ []) es ≡ on_shelf whole (e ∷ es)
moved_same whole e es =
    ap (λ h. h ++ batches_filed es) (map-append batch_shared whole (e.1 ∷ [])) ∙ append_assoc (batches_shared whole) (batch_shared e.1 ∷ []) (batches_filed es)

pub record IsMoved (whole : List Shared) (ahead : List Filed) (now : List Shared) (later : List Filed) : Type 0 where
  pub is : IsShelf now later
  pub same : on_shelf now later ≡ on_shelf whole ahead

-- the same, of what was seen first and then taken
pub moved_first : (whole : List Shared) (ahead : List Filed) (e : Filed) (es : List Filed) (k : ℕ) (a : Shared) → IsShelf whole ahead → slice_get ahead 0 ≡ Some (k, a) → k ≡ length whole + 1 → ahead ≡ e ∷ es → IsMoved whole ahead (whole ++ e.1 ∷ []) es
moved_first whole ahead e es k a is seen next taken =
    let first : Some e ≡ Some (k, a) = sym (ap (λ xs. slice_get xs 0) taken) ∙ seen in
    let same : e.0 ≡ k = ap (λ (x : Filed). x.0) (same_Some e (k, a) first) in
    record {
      is = moved whole e es (subst (IsShelf whole) taken is) (same ∙ next);
      same = moved_same whole e es ∙ ap (on_shelf whole) (sym taken);
    }

none_ahead : (whole : List Shared) (ahead : List Filed) (s : ℕ) → IsShelf whole ahead → length whole < s → at_seq (on_shelf whole ahead) s ≡ None → at_seq (batches_filed ahead) s ≡ None
none_ahead whole ahead s is high none = sym (found_filed (length whole + 1) s ahead is.filed) ∙ (is_at_ahead whole ahead s is (inr high) ∙ none)

above_next : (whole : List Shared) (ahead : List Filed) (s : ℕ) → IsShelf whole ahead → s ≡ length whole + 1 → at_seq (on_shelf whole ahead) s ≡ None → AreFiled (length whole + 2) ahead
above_next whole ahead s is next none =
    let more : length whole + 1 + 1 ≡ length whole + 2 = omega arith in
    subst (λ n. AreFiled n ahead) more (filed_above (length whole + 1) ahead is.filed (subst (λ n. at_seq (batches_filed ahead) n ≡ None) next (none_ahead whole ahead s is (omega (arith, next)) none)))

-- what a shelf is with a batch more
pub record IsWith (whole : List Shared) (ahead : List Filed) (a : Shared) (now : List Shared) (later : List Filed) : Type 0 where
  pub is : IsShelf now later
  pub put : on_shelf now later ≡ put (on_shelf whole ahead) (batch_shared a)

module _ (whole : List Shared) (ahead : List Filed) (a : Shared) (is : IsShelf whole ahead) (of : AreOf (batch_shared a).agent (on_shelf whole ahead)) (high : (batch_shared a).seq ≤ 1_000_000)
    (none : at_seq (on_shelf whole ahead) (batch_shared a).seq ≡ None) where
  put_ahead : length whole < (batch_shared a).seq → put (on_shelf whole ahead) (batch_shared a) ≡ batches_shared whole ++ put (batches_filed ahead) (batch_shared a)
  put_ahead above = put_behind 1 (batches_shared whole) (batches_filed ahead) (batch_shared a) of is.counted (omega (arith, above, length-map whole batch_shared))

  of_ahead : AreOf (batch_shared a).agent (batches_filed ahead)
  of_ahead = of_rest (batch_shared a).agent (batches_shared whole) (batches_filed ahead) of

  -- it comes next
  pub pushed : (batch_shared a).seq ≡ length whole + 1 → IsWith whole ahead a (whole ++ a ∷ []) ahead
  pushed next = record {
    is = record {
      counted = subst (AreCounted 1) (sym (map-append batch_shared whole (a ∷ []))) (counted_push 1 (batches_shared whole) (batch_shared a) is.counted (omega (arith, next, length-map whole batch_shared)));
      short = let more = length-append whole (a ∷ []) in omega (arith, more, next, high);
      filed = subst (λ n. AreFiled n ahead) longer later;
    };
    put = moved_same whole ((batch_shared a).seq, a) ahead
        ∙ sym (put_ahead (omega (arith, next)) ∙ ap (λ h. batches_shared whole ++ h) (put_front (batch_shared a) (batches_filed ahead) of_ahead (subst (λ n. Rises n (batches_filed ahead)) after (filed_rises (length whole + 2) ahead later))));
  }
    where
      later : AreFiled (length whole + 2) ahead
      later = above_next whole ahead (batch_shared a).seq is next none

      longer : length whole + 2 ≡ length (whole ++ a ∷ []) + 1
      longer = let more = length-append whole (a ∷ []) in omega (arith, more)

      after : length whole + 2 ≡ (batch_shared a).seq + 1
      after = omega (arith, next)

  -- it comes later
  pub filed_later : length whole < (batch_shared a).seq → IsWith whole ahead a whole (insert_entry nat_cmp ahead (batch_shared a).seq a)
  filed_later above =
      let more = inserted (length whole + 1) ahead a of_ahead is.filed (omega (arith, above)) high (none_ahead whole ahead (batch_shared a).seq is above none) in
      record {
        is = record { counted = is.counted; short = is.short; filed = more.filed };
        put = ap (λ h. batches_shared whole ++ h) more.put ∙ sym (put_ahead above);
      }

  -- it comes not before the next
  pub is_later : 1 ≤ (batch_shared a).seq → length whole < (batch_shared a).seq
  is_later low = elim (cases_lt (length whole) (batch_shared a).seq) [
    | inl above ↦ above
    | inr within ↦ absurd (both_ways _ (ap is_some none) (all_at_whole whole ahead (batch_shared a).seq is low within))
  ]

-- of a shelf whose batches are h
module _ (whole : List Shared) (ahead : List Filed) (h : Holding) (a : Shared) (s : ℕ) (same : on_shelf whole ahead ≡ h) (is : IsShelf whole ahead) (seq : s ≡ (batch_shared a).seq) (range : (1 ≤ s) × (s ≤ 1_000_000))
    (of : AreOf (batch_shared a).agent h) (none : at_seq h s ≡ None) where
  is_of : AreOf (batch_shared a).agent (on_shelf whole ahead)
  is_of = subst (AreOf (batch_shared a).agent) (sym same) of

  is_none : at_seq (on_shelf whole ahead) (batch_shared a).seq ≡ None
  is_none = subst (λ k. at_seq k (batch_shared a).seq ≡ None) (sym same) (subst (λ n. at_seq h n ≡ None) seq none)

  pub add_next : (now : List Shared) → s ≡ length whole + 1 → now ≡ whole ++ a ∷ [] → IsShelf now ahead × (on_shelf now ahead ≡ put h (batch_shared a))
  add_next now next e =
      let with = pushed whole ahead a is is_of (omega (arith, seq, range.1)) is_none (sym seq ∙ next) in
      (subst (λ xs. IsShelf xs ahead) (sym e) with.is, ap (λ xs. on_shelf xs ahead) e ∙ (with.put ∙ ap (λ k. put k (batch_shared a)) same))

  pub add_later : (later : List Filed) → later ≡ insert_entry nat_cmp ahead s a → IsShelf whole later × (on_shelf whole later ≡ put h (batch_shared a))
  add_later later e =
      let high : (batch_shared a).seq ≤ 1_000_000 = omega (arith, seq, range.1) in
      let above = is_later whole ahead a is is_of high is_none (omega (arith, seq, range.0)) in
      let with = filed_later whole ahead a is is_of high is_none above in
      let entries = e ∙ ap (λ n. insert_entry nat_cmp ahead n a) seq in
      (subst (IsShelf whole) (sym entries) with.is, ap (on_shelf whole) entries ∙ (with.put ∙ ap (λ k. put k (batch_shared a)) same))

-- the sequences of a shelf rise
pub shelf_rises : (whole : List Shared) (ahead : List Filed) → IsShelf whole ahead → Rises 1 (on_shelf whole ahead)
shelf_rises whole ahead is = counted_rises 1 (batches_shared whole) (batches_filed ahead) is.counted (subst (λ n. Rises n (batches_filed ahead)) after (filed_rises (length whole + 1) ahead is.filed))
  where
    after : length whole + 1 ≡ 1 + length (batches_shared whole)
    after = omega (arith, length-map whole batch_shared)

found_is_some : (o : Option (Bor (List ℕ))) → is_some (option_map batch_of (option_copied o)) ≡ is_some o
found_is_some None = refl
found_is_some (Some x) = refl

-- where a look-up found one, a batch of its sequence stays
pub put_found : (h : Holding) (b : Batch) (s : ℕ) (o : Option (Bor (List ℕ))) → Rises 1 h → AreOf b.agent h → s ≡ b.seq → option_map batch_of (option_copied o) ≡ at_seq h s → is_some o ≡ true → h ≡ put h b
put_found h b s o rises of seq found some =
    let there : is_some (at_seq h b.seq) ≡ true = ap (λ n. is_some (at_seq h n)) (sym seq) ∙ (ap is_some (sym found) ∙ (found_is_some o ∙ some)) in
    sym (put_there 1 h b of rises there)
