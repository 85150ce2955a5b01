-- Where the batches up to a cut are due, each row's charge starts before its billing period ends.
use Rattle.std.proofs.Common.{◌≡◌, ℕ, ◌+◌, ◌≤◌, true, List, [], ◌∷◌, length, get_or, Some, ℤ, ◌<ℤ◌, ◌≤ℤ◌, refl, sym, subst, ◌∙◌, arith, inl, inr}
use Rattle.std.specs.Prelude.{All, int_lt}
use Rattle.std.specs.List.{list_all}
use Rattle.std.specs.Option.{IsSomeAnd}
use Rattle.std.proofs.lemmas.Bool.{cases_lt, and_parts, cond-true, cond-false}
use Rattle.std.proofs.lemmas.Int.{ints}
use Rattle.std.proofs.lemmas.List.Elements.{All-nil, All-cons, All-head, All-tail, All-append, All-weaker}
use Rattle.metering_model.specs.Dates.{period_end, period_end_text, IsBaseMonth, IsPeriod, IsStampText}
use Rattle.metering_model.specs.Batch.{Batch, Record, Reads, Amends, Reading, IsRecord}
use Rattle.metering_model.specs.Cut.{Cut, zero_cut, last_of}
use Rattle.metering_model.specs.Sheet.{Sheet, Issuer}
use Rattle.metering_model.specs.Holding.{Holding, IsHolding, Placed, comes_before, is_in_order, is_batch_at, held}
use Rattle.metering_model.specs.Front.{starts_before, is_due, IsDueAt, AreDueBetween}
use Rattle.metering_model.specs.Row.{Row}
use Rattle.metering_model.specs.Rows.{rows}
use Rattle.metering_model.proofs.BatchOrder.{at_itself, not_at-before, in_order_parts}
use Rattle.metering_model.proofs.Splitting.{list_all_weaker}
use Rattle.metering_model.proofs.MonthOrder.{month_start-le}
use Rattle.metering_model.proofs.MonthTexts.{IsStampText-month_start}
use Rattle.metering_model.proofs.RecordPlaces.{place_in}
use Rattle.metering_model.proofs.EachRow.{records_have, rows_have}
use Rattle.row_laws.specs.Charged.{files_over, files, all_rows}
use Rattle.row_laws.specs.Due.{WereDueBefore, AreDueFrom, AreDueOver, StartsBeforeItsPeriodEnds}
use Rattle.row_laws.proofs.Telescoping.{last_of_zero_cut}

-- ---- due for a period, due for a later one

from_int_lt : (a b : ℤ) → int_lt a b ≡ true → a <ℤ b
from_int_lt a b h = grind (arith, ints)

starts_later : (a b c : ℤ) → int_lt a b ≡ true → b ≤ℤ c → int_lt a c ≡ true
starts_later a b c h k = grind (arith, ints)

starts_before_later : (a b : ℤ) → a ≤ℤ b → (x : Record) → starts_before a x ≡ true → starts_before b x ≡ true
starts_before_later a b later (Reads r) h = starts_later r.start a b h later
starts_before_later a b later (Amends seq index value) h = refl

pub due_later : (base p q : ℕ) (b : Batch) → p ≤ q → is_due base p b ≡ true → is_due base q b ≡ true
due_later base p q b up h =
    list_all_weaker (starts_before (period_end base p)) (starts_before (period_end base q))
    (starts_before_later (period_end base p) (period_end base q) (month_start-le (base + p + 1) (base + q + 1) (omega arith))) b.records h

-- ---- one period

-- a record that meets its rule, and starts before a moment
abbrev StartsWell : ℤ → Record → Type 0
StartsWell moment x = IsRecord x × (starts_before moment x ≡ true)

each_starts_well : (moment : ℤ) (rs : List Record) → All IsRecord rs → list_all (starts_before moment) rs ≡ true → All (StartsWell moment) rs
each_starts_well moment [] all h = All-nil (StartsWell moment)
each_starts_well moment (x ∷ xs) all h =
    let parts = and_parts (starts_before moment x) (list_all (starts_before moment) xs) h in
    All-cons (StartsWell moment) x xs (All-head IsRecord x xs all, parts.0) (each_starts_well moment xs (All-tail IsRecord x xs all) parts.1)

-- each batch up to the cut is due for the period
abbrev IsDueUpTo : ℕ → ℕ → Cut → Holding → Type 0
IsDueUpTo base period cut h = All (λ b. b.seq ≤ last_of cut b.agent → is_due base period b ≡ true) h

row_starts_well : (sheet : Sheet) (period : ℕ) (r : Reading) (x : Row) → IsBaseMonth sheet.base → IsPeriod period → StartsWell (period_end sheet.base period) (Reads r) →
    x.charge_period_start ≡ r.start_text → x.billing_period_end ≡ period_end_text sheet.base period → StartsBeforeItsPeriodEnds x
row_starts_well sheet period r x is_base is_period well start_text end_text = record {
  start = r.start;
  end = period_end sheet.base period;
  start_is = subst (λ t. IsStampText t r.start) (sym start_text) well.0.start;
  end_is = subst (λ t. IsStampText t (period_end sheet.base period)) (sym end_text) (IsStampText-month_start (sheet.base + period + 1) (omega arith) (omega arith));
  earlier = from_int_lt r.start (period_end sheet.base period) well.1;
}

due_rows : (sheet : Sheet) (issuer : Issuer) (h : Holding) (period : ℕ) (from to : Cut) → IsHolding h → IsBaseMonth sheet.base → IsPeriod period → IsDueUpTo sheet.base period to h →
    All StartsBeforeItsPeriodEnds (rows sheet issuer h period from to)
due_rows sheet issuer h period from to ok is_base is_period due =
    let moment = period_end sheet.base period in
    let Q = λ (x : Placed). StartsWell moment x.what in
    rows_have sheet issuer h period from to StartsBeforeItsPeriodEnds Q
    (λ at r well. row_starts_well sheet period r _ is_base is_period well refl refl)
    (λ at r well. row_starts_well sheet period r _ is_base is_period well refl refl)
    (records_have Q to h (λ k d inside in_cut.
    let b = get_or h k d in
    All-weaker (StartsWell moment) (λ r. (i : ℕ) → Q (place_in b (i, r))) (λ r well i. well) b.records
    (each_starts_well moment b.records (ok.batches k d inside).records (due k d inside in_cut))))

-- ---- a batch of a holding is held at its place

abbrev IsHeldIn : Holding → Batch → Type 0
IsHeldIn h b = held h b.agent b.seq ≡ Some b

behind : (b : Batch) (h k : Holding) → list_all (comes_before b) k ≡ true → All (IsHeldIn h) k → All (IsHeldIn (b ∷ h)) k
behind b h [] before all = All-nil (IsHeldIn (b ∷ h))
behind b h (c ∷ k) before all =
    let parts = and_parts (comes_before b c) (list_all (comes_before b) k) before in
    let here = All-head (IsHeldIn h) c k all in
    let passed = cond-false (is_batch_at c.agent c.seq b) (Some b) (held h c.agent c.seq) (not_at-before b c c.agent c.seq parts.0 (at_itself c)) in
    All-cons (IsHeldIn (b ∷ h)) c k (passed ∙ here) (behind b h k parts.1 (All-tail (IsHeldIn h) c k all))

all_held : (h : Holding) → is_in_order h ≡ true → All (IsHeldIn h) h
all_held [] o = All-nil (IsHeldIn [])
all_held (b ∷ h) o =
    let parts = in_order_parts b h o in
    All-cons (IsHeldIn (b ∷ h)) b h (cond-true (is_batch_at b.agent b.seq b) (Some b) (held h b.agent b.seq) (at_itself b)) (behind b h h parts.0 (all_held h parts.1))

due_of_held : (base period : ℕ) (h : Holding) (b : Batch) → IsHeldIn h b → IsDueAt base period h b.agent b.seq → is_due base period b ≡ true
due_of_held base period h b found due = subst (λ o. IsSomeAnd o (λ c. is_due base period c ≡ true)) found due

pub rows_start_before : (sheet : Sheet) (issuer : Issuer) (h : Holding) (period : ℕ) (from to : Cut) → IsHolding h → IsBaseMonth sheet.base → IsPeriod period →
    AreDueBetween sheet.base period h from to → WereDueBefore sheet.base period h from →
    All StartsBeforeItsPeriodEnds (rows sheet issuer h period from to)
rows_start_before sheet issuer h period from to ok is_base is_period now before =
    due_rows sheet issuer h period from to ok is_base is_period (λ k d inside in_cut.
    let b = get_or h k d in
    let found = all_held h ok.in_order k d inside in
    elim (cases_lt (last_of from b.agent) b.seq) [
      | inl above ↦ due_of_held sheet.base period h b found (now b.agent b.seq above in_cut)
      | inr old ↦
          let was = before b.agent b.seq (ok.batches k d inside).seq.0 old in
          due_later sheet.base was.0 period b (omega arith) (due_of_held sheet.base was.0 h b found was.2)
    ])

-- ---- all periods

-- those up to a cut stay due
still_due : (base period : ℕ) (from to : Cut) (h : Holding) → is_in_order h ≡ true → IsDueUpTo base period from h → AreDueBetween base period h from to → IsDueUpTo base period to h
still_due base period from to h in_order before now = λ k d inside in_cut.
    let b = get_or h k d in
    elim (cases_lt (last_of from b.agent) b.seq) [
      | inl above ↦ due_of_held base period h b (all_held h in_order k d inside) (now b.agent b.seq above in_cut)
      | inr old ↦ before k d inside old
    ]

all_files : (sheet : Sheet) (issuer : Issuer) (h : Holding) (period : ℕ) (before : Cut) (cuts : List Cut) → IsHolding h → IsBaseMonth sheet.base → period + length cuts ≤ 1_200 →
    IsDueUpTo sheet.base period before h → AreDueFrom sheet.base period h before cuts →
    All StartsBeforeItsPeriodEnds (all_rows (files_over sheet issuer h period before cuts))
all_files sheet issuer h period before [] ok is_base short old due = All-nil StartsBeforeItsPeriodEnds
all_files sheet issuer h period before (cut ∷ cuts) ok is_base short old due =
    let here = still_due sheet.base period before cut h ok.in_order old due.0 in
    let next : IsDueUpTo sheet.base (period + 1) cut h = λ k d inside in_cut. due_later sheet.base period (period + 1) (get_or h k d) (omega arith) (here k d inside in_cut) in
    All-append StartsBeforeItsPeriodEnds (rows sheet issuer h period before cut) (all_rows (files_over sheet issuer h (period + 1) cut cuts))
    (due_rows sheet issuer h period before cut ok is_base (omega arith) here)
    (all_files sheet issuer h (period + 1) cut cuts ok is_base (omega arith) next due.1)

pub files_start_before : (sheet : Sheet) (issuer : Issuer) (h : Holding) (agents : ℕ) (cuts : List Cut) → IsHolding h → IsBaseMonth sheet.base → length cuts ≤ 1_200 → AreDueOver sheet.base h agents cuts →
    All StartsBeforeItsPeriodEnds (all_rows (files sheet issuer h agents cuts))
files_start_before sheet issuer h agents cuts ok is_base short due =
    all_files sheet issuer h 0 (zero_cut agents) cuts ok is_base (omega arith)
    (λ k d inside in_cut. let b = get_or h k d in let some = (ok.batches k d inside).seq.0 in let none = last_of_zero_cut agents b.agent in absurd (omega arith))
    due
