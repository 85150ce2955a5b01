-- A batch that breaks a rule of the journals is refused for the first of its records that does.
use Rattle.std.proofs.Common.{◌≡◌, ℕ, zero, suc, ◌+◌, ◌<◌, ◌≤◌, Bool, true, false, ◌&&◌, cond, List, [], ◌∷◌, ◌++◌, ◌⊎◌, length, take, Option, Some, None, decimal, codes, pos, get_or, refl, sym, ap, ap₂, ◌∙◌, arith, inl, inr, length-take}
use Rattle.std.specs.Prelude.{◌==◌, nat_lt, if◌then◌else◌}
use Rattle.std.specs.List.{flat_map, join_with_byte, list_all, slice_get}
use Rattle.std.specs.Option.{option_and_then, option_to_list}
use Rattle.std.proofs.lemmas.Bool.{and_parts, and_from, or_cases, eqb-true, ltb-true, cases_lt}
use Rattle.std.proofs.lemmas.Fmt.{length-decimal-le}
use Rattle.std.proofs.lemmas.List.{length-append, length-take-le, take_all}
use Rattle.std.proofs.lemmas.List.Elements.{All-take}
use Rattle.std.proofs.lemmas.List.Folds.{length-flat_map-take}
use Rattle.metering_model.specs.Batch.{Batch, IsBatch, IsRecord, Reading, Record, Reads, Amends, batch_text, head_fields, is_of_version, kind_text, line_of_fields, record_fields, tags_text, version_text}
use Rattle.metering_model.specs.declared.BrokenRule.{BrokenRule}
use Rattle.metering_model.specs.declared.BrokenRule.TheVariants as rules
use Rattle.metering_model.specs.Holding.{Holding, Position, comes_before, held, placed, put, reading_at, reading_of, is_batch_at}
use Rattle.metering_model.specs.JournalRules.{broken_by, comes_earlier, first_broken, is_fit_target}
use Rattle.metering_model.specs.NumberText.{spelling}
use Rattle.metering_model.specs.Sheet.{Sheet}
use Rattle.journal_rules.specs.FirstBad.{first_bad}
use Rattle.journal_rules.specs.Inner.Left.{placed_from}
use Rattle.journal_rules.proofs.BrokenLaws.{or_later}
use Rattle.input_check.specs.Checks.{first_records}

-- ---- the rule that a record breaks, where some of those behind it are not there

abbrev at : Batch → ℕ → Position
at b index = record { agent = b.agent; seq = b.seq; index = index }

some_get : {A : Type 0} (n i : ℕ) (xs : List A) → i < n → slice_get (take n xs) i ≡ slice_get xs i
some_get zero i xs low = absurd (omega (arith, low))
some_get (suc n) i [] low = refl
some_get (suc n) zero (x ∷ xs) low = refl
some_get (suc n) (suc i) (x ∷ xs) low = some_get n i xs (omega (arith, low))

-- an amendment of the same batch names a record above it
names_above : (b : Batch) (index seq target : ℕ) → comes_earlier (at b index) seq target ≡ true → is_batch_at b.agent seq b ≡ true → target < index
names_above b index seq target earlier here =
    let same = eqb-true b.seq seq (and_parts (b.agent == b.agent) (b.seq == seq) here).1 in
    elim (or_cases (nat_lt seq b.seq) ((seq == b.seq) && nat_lt target index) earlier) [
      | inl less ↦ absurd (let low = ltb-true seq b.seq less in omega (arith, low, same))
      | inr both ↦ ltb-true target index (and_parts (seq == b.seq) (nat_lt target index) both).1
    ]

-- Two holdings have the same there, or the one has this batch and the other that one.
abbrev FindsBeside : (agent seq : ℕ) (b c : Batch) (h k : Holding) → Type 0
FindsBeside agent seq b c h k =
    (held h agent seq ≡ held k agent seq) ⊎ ((is_batch_at agent seq b ≡ true) × (held h agent seq ≡ Some b) × (held k agent seq ≡ Some c))

module _ (sheet : Sheet) (h : Holding) (n : ℕ) (b : Batch) where
  abbrev cut : Batch
  cut = first_records n b

  found : (agent seq : ℕ) (k : Holding) → FindsBeside agent seq b cut (put k b) (put k cut)
  found agent seq k = by_holding k
    where
      in_front : (rest : Holding) → FindsBeside agent seq b cut (b ∷ rest) (cut ∷ rest)
      in_front rest = by_test (is_batch_at agent seq b) refl
        where
          by_test : (t : Bool) → is_batch_at agent seq b ≡ t → FindsBeside agent seq b cut (b ∷ rest) (cut ∷ rest)
          by_test true here = inr (
            here,
            ap (λ t. cond t (Some b) (held rest agent seq)) here,
            ap (λ t. cond t (Some cut) (held rest agent seq)) here,
          )
          by_test false other =
              inl (ap (λ t. cond t (Some b) (held rest agent seq)) other ∙ sym (ap (λ t. cond t (Some cut) (held rest agent seq)) other))

      behind : (x : Batch) (one two : Holding) → FindsBeside agent seq b cut one two → FindsBeside agent seq b cut (x ∷ one) (x ∷ two)
      behind x one two later = by_test (is_batch_at agent seq x) refl later
        where
          by_test : (t : Bool) → is_batch_at agent seq x ≡ t → FindsBeside agent seq b cut one two → FindsBeside agent seq b cut (x ∷ one) (x ∷ two)
          by_test true here rest =
              inl (ap (λ t. cond t (Some x) (held one agent seq)) here ∙ sym (ap (λ t. cond t (Some x) (held two agent seq)) here))
          by_test false other (inl same) = inl (ap (λ o. cond (is_batch_at agent seq x) (Some x) o) same)
          by_test false other (inr both) = inr (
            both.0,
            ap (λ t. cond t (Some x) (held one agent seq)) other ∙ both.1,
            ap (λ t. cond t (Some x) (held two agent seq)) other ∙ both.2,
          )

      by_order : (x : Batch) (k : Holding) (first second : Bool) → FindsBeside agent seq b cut (put k b) (put k cut)
          → FindsBeside agent seq b cut (cond first (b ∷ x ∷ k) (cond second (x ∷ put k b) (x ∷ k))) (cond first (cut ∷ x ∷ k) (cond second (x ∷ put k cut) (x ∷ k)))
      by_order x k true second later = in_front (x ∷ k)
      by_order x k false true later = behind x (put k b) (put k cut) later
      by_order x k false false later = inl refl

      by_holding : (k : Holding) → FindsBeside agent seq b cut (put k b) (put k cut)
      by_holding [] = in_front []
      by_holding (x ∷ k) = by_order x k (comes_before b x) (comes_before x b) (by_holding k)

  same_reading : (seq target : ℕ) → (is_batch_at b.agent seq b ≡ true → target < n)
      → reading_at (put h b) (record { agent = b.agent; seq = seq; index = target }) ≡ reading_at (put h cut) (record { agent = b.agent; seq = seq; index = target })
  same_reading seq target low = by_place (found b.agent seq h)
    where
      in_batch : Option Batch → Option Reading
      in_batch o = option_and_then (λ (x : Batch). option_and_then reading_of (slice_get x.records target)) o

      by_place : FindsBeside b.agent seq b cut (put h b) (put h cut)
          → reading_at (put h b) (record { agent = b.agent; seq = seq; index = target }) ≡ reading_at (put h cut) (record { agent = b.agent; seq = seq; index = target })
      by_place (inl same) = ap in_batch same
      by_place (inr both) = ap in_batch both.1 ∙ (ap (option_and_then reading_of) (sym (some_get n target b.records (low both.0))) ∙ sym (ap in_batch both.2))

  same_rule : (index : ℕ) (what : Record) → index < n → broken_by sheet (put h b) (at b index) what ≡ broken_by sheet (put h cut) (at b index) what
  same_rule index (Reads r) low = refl
  same_rule index (Amends seq target value) low = by_test (comes_earlier (at b index) seq target) refl
    where
      by_test : (t : Bool) → comes_earlier (at b index) seq target ≡ t
          → (if t && is_fit_target value (reading_at (put h b) (record { agent = b.agent; seq = seq; index = target })) then None else Some rules.BadTarget)
          ≡ (if t && is_fit_target value (reading_at (put h cut) (record { agent = b.agent; seq = seq; index = target })) then None else Some rules.BadTarget)
      by_test true earlier =
          ap (λ o. if is_fit_target value o then None else Some rules.BadTarget)
          (same_reading seq target (λ here. let above = names_above b index seq target earlier here in omega (arith, above, low)))
      by_test false earlier = refl

  same_first : (index : ℕ) (rs : List Record) → index + length rs ≤ n
      → first_broken sheet (put h b) (placed_from b.agent b.seq index rs) ≡ first_broken sheet (put h cut) (placed_from b.agent b.seq index rs)
  same_first index [] low = refl
  same_first index (r ∷ rs) low = ap₂ or_later (same_rule index r (omega (arith, low))) (same_first (index + 1) rs (omega (arith, low)))

-- ---- the first that breaks one

-- It is this one of the records, which stand from an index on: those above it break none, and with it they break the rule.
record IsFirst (sheet : Sheet) (h : Holding) (agent seq from : ℕ) (rs : List Record) (rule : BrokenRule) (i : ℕ) : Type 0 where
  pub within : i < length rs
  pub bad : first_bad sheet h (placed_from agent seq from rs) ≡ Some (record { agent = agent; seq = seq; index = from + i })
  pub above : first_broken sheet h (placed_from agent seq from (take i rs)) ≡ None
  pub with_it : first_broken sheet h (placed_from agent seq from (take (i + 1) rs)) ≡ Some rule

module _ (sheet : Sheet) (h : Holding) (agent seq : ℕ) (rule : BrokenRule) where
  first_there : (from : ℕ) (rs : List Record) → first_broken sheet h (placed_from agent seq from rs) ≡ Some rule → (i : ℕ) × IsFirst sheet h agent seq from rs rule i
  first_there from [] broken = absurd (cc)
  first_there from (r ∷ rs) broken = by_rule (broken_by sheet h here r) refl (λ k. first_there (from + 1) rs k) broken
    where
      here : Position
      here = record { agent = agent; seq = seq; index = from }

      in_front : from ≡ from + 0
      in_front = omega arith

      by_rule : (o : Option BrokenRule) → broken_by sheet h here r ≡ o
          → (first_broken sheet h (placed_from agent seq (from + 1) rs) ≡ Some rule → (i : ℕ) × IsFirst sheet h agent seq (from + 1) rs rule i)
          → or_later o (first_broken sheet h (placed_from agent seq (from + 1) rs)) ≡ Some rule
          → (i : ℕ) × IsFirst sheet h agent seq from (r ∷ rs) rule i
      by_rule (Some other) is later k = (
        0,
        record {
          within = omega arith;
          bad = ap (λ o. elim o [ Some x ↦ Some here | None ↦ first_bad sheet h (placed_from agent seq (from + 1) rs) ]) is
              ∙ ap (λ n. Some (record { agent = agent; seq = seq; index = n })) in_front;
          above = refl;
          with_it = ap (λ o. or_later o None) is ∙ k;
        },
      )
      by_rule None is later k =
          let rest = later k in
          let i = rest.0 in
          let place : from + 1 + i ≡ from + suc i = omega arith in
          let one_more : suc i + 1 ≡ suc (i + 1) = omega arith in (
            suc i,
            record {
              within = omega (arith, rest.1.within);
              bad = ap (λ o. elim o [ Some x ↦ Some here | None ↦ first_bad sheet h (placed_from agent seq (from + 1) rs) ]) is
                  ∙ rest.1.bad ∙ ap (λ n. Some (record { agent = agent; seq = seq; index = n })) place;
              above = ap (λ o. or_later o (first_broken sheet h (placed_from agent seq (from + 1) (take i rs)))) is ∙ rest.1.above;
              with_it = ap (λ n. first_broken sheet h (placed_from agent seq from (take n (r ∷ rs)))) one_more
                  ∙ ap (λ o. or_later o (first_broken sheet h (placed_from agent seq (from + 1) (take (i + 1) rs)))) is ∙ rest.1.with_it;
            },
          )

-- ---- fewer records of a batch are a batch

some_pass : {A : Type 0} (p : A → Bool) (n : ℕ) (xs : List A) → list_all p xs ≡ true → list_all p (take n xs) ≡ true
some_pass p zero xs h = refl
some_pass p (suc n) [] h = refl
some_pass p (suc n) (x ∷ xs) h =
    let both = and_parts (p x) (list_all p xs) h in
    and_from _ _ both.0 (some_pass p n xs both.1)

four_long : (a b c d : List ℕ) (rest : List (List ℕ)) → 4 ≤ length (line_of_fields (a ∷ b ∷ c ∷ d ∷ rest))
four_long a b c d rest =
    let last = join_with_byte 124 (d ∷ rest) in
    omega (
      arith,
      length-append (join_with_byte 124 (a ∷ b ∷ c ∷ d ∷ rest)) (10 ∷ []),
      length-append a (124 ∷ (b ++ 124 ∷ (c ++ 124 ∷ last))),
      length-append b (124 ∷ (c ++ 124 ∷ last)),
      length-append c (124 ∷ last),
    )

record_long : (r : Record) → 4 ≤ length (line_of_fields (record_fields r))
record_long (Reads r) = four_long (kind_text r.kind) r.start_text r.end_text r.account
    (r.resource ∷ r.key ∷ spelling 6 r.value ∷ r.commitment ∷ tags_text r.tags ∷ option_to_list r.region)
record_long (Amends seq index value) = four_long (codes "X") (decimal seq) (decimal index) (spelling 6 value) []

head_long : (v a s t : List ℕ) → length (line_of_fields (v ∷ a ∷ s ∷ t ∷ [])) ≡ length v + length a + length s + length t + 4
head_long v a s t =
    omega (
      arith,
      length-append (join_with_byte 124 (v ∷ a ∷ s ∷ t ∷ [])) (10 ∷ []),
      length-append v (124 ∷ (a ++ 124 ∷ (s ++ 124 ∷ t))),
      length-append a (124 ∷ (s ++ 124 ∷ t)),
      length-append s (124 ∷ t),
    )

abbrev record_lines : List Record → List ℕ
record_lines rs = flat_map (λ r. line_of_fields (record_fields r)) rs

nothing : Record
nothing = Amends 0 0 (pos 0)

-- the count may be longer by three bytes at most, and a record is longer
fewer_shorter : (n : ℕ) (b : Batch) → length b.records ≤ 1_000 → n < length b.records → length (batch_text (first_records n b)) ≤ length (batch_text b)
fewer_shorter n b few low =
    let cut = first_records n b in
    let count : length (take n b.records) ≡ n = length-take-le n b.records (omega (arith, low)) in
    let number : length (decimal (length (take n b.records))) ≤ 4 = length-decimal-le 4 (length (take n b.records)) (omega arith) (omega (arith, count, low, few)) (omega (arith, count, low, few)) in
    omega (
      arith,
      number,
      length-append (line_of_fields (head_fields b)) (record_lines b.records),
      length-append (line_of_fields (head_fields cut)) (record_lines cut.records),
      head_long (version_text b.version) (decimal b.agent) (decimal b.seq) (decimal (length b.records)),
      head_long (version_text b.version) (decimal b.agent) (decimal b.seq) (decimal (length (take n b.records))),
      length-flat_map-take (λ r. line_of_fields (record_fields r)) b.records n nothing low,
      record_long (get_or b.records n nothing),
    )

no_longer : (n : ℕ) (b : Batch) → length b.records ≤ 1_000 → length (batch_text (first_records n b)) ≤ length (batch_text b)
no_longer n b few = elim (cases_lt n (length b.records)) [
  | inl low ↦ fewer_shorter n b few low
  | inr high ↦ let all = ap (λ rs. length (batch_text (record b { records = rs }))) (take_all n b.records high) in omega (arith, all)
]

pub fewer_are_batch : (n : ℕ) (text : List ℕ) (b : Batch) → IsBatch text b → IsBatch (batch_text (first_records n b)) (first_records n b)
fewer_are_batch n text b is = record {
  joined = refl;
  short = omega (arith, no_longer n b is.count, ap length is.joined, is.short);
  agent = is.agent;
  seq = is.seq;
  count = omega (arith, length-take n b.records, is.count);
  records = All-take IsRecord n b.records is.records;
  of_version = some_pass (is_of_version b.version) n b.records is.of_version;
}

-- ---- a batch beside the journals

-- Of a batch that breaks a rule in journals which have it too, this record is the first that does.
pub record IsFirstOf (sheet : Sheet) (h : Holding) (b : Batch) (rule : BrokenRule) (i : ℕ) : Type 0 where
  pub within : i < length b.records
  pub bad : first_bad sheet (put h b) (placed b) ≡ Some (record { agent = b.agent; seq = b.seq; index = i })
  pub above : first_broken sheet (put h (first_records i b)) (placed (first_records i b)) ≡ None
  pub with_it : first_broken sheet (put h (first_records (i + 1) b)) (placed (first_records (i + 1) b)) ≡ Some rule

pub first_of_batch : (sheet : Sheet) (h : Holding) (b : Batch) (rule : BrokenRule) → first_broken sheet (put h b) (placed b) ≡ Some rule → (i : ℕ) × IsFirstOf sheet h b rule i
first_of_batch sheet h b rule broken =
    let first = first_there sheet (put h b) b.agent b.seq rule 0 b.records broken in
    let i = first.0 in
    let is = first.1 in (
      i,
      record {
        within = is.within;
        bad = is.bad ∙ ap (λ n. Some (record { agent = b.agent; seq = b.seq; index = n })) (omega arith);
        above = sym (same_first sheet h i b 0 (take i b.records) (omega (arith, length-take i b.records))) ∙ is.above;
        with_it = sym (same_first sheet h (i + 1) b 0 (take (i + 1) b.records) (omega (arith, length-take (i + 1) b.records))) ∙ is.with_it;
      },
    )
