-- A text is read as a batch exactly where it is that batch's text, and each of its parts meets its rule.
use Rattle.std.proofs.Common.{◌≡◌, ℕ, ◌+◌, Bool, true, false, ◌&&◌, cond, List, [], ◌∷◌, ◌++◌, length, map, flat_map, All, Result, Ok, Err, refl, sym, ap, ap₂, ◌∙◌, subst, append-nil, ltb-false, le-ltb, eqb-true, eq-eqb}
use Rattle.std.specs.Prelude.{◌==◌, nat_lt}
use Rattle.std.specs.List.{list_all}
use Rattle.std.proofs.lemmas.Bool.{and_parts, and_from, cond-false, false≢true}
use Rattle.std.proofs.lemmas.List.{length-map}
use Rattle.std.proofs.lemmas.List.Folds.{flat_map-map}
use Rattle.metering_model.specs.FirstFailure.{holds_or}
use Rattle.metering_model.specs.Batch.{Record, IsRecord, is_of_version, Batch, IsBatch, IsWellFormed, batch_text, head_fields, line_of_fields, is_empty}
use Rattle.metering_model.specs.BatchReading.{Count, BatchFault, TooLong, HeadLine, head_in, records_in, fields_in, at_line, Lines, lines_in, batch_of_lines, batch_in}
use Rattle.metering_model.proofs.StepLaws.{step_iff, ok_same}
use Rattle.metering_model.proofs.Splitting.{ended, lines_give_back, lines_of_text}
use Rattle.metering_model.proofs.LineLaws.{HeadLimits, head_line, head_read, head_written, head_lacks_feed, record_line, at_line_ok, records_read, records_written, records_lack_feed}

-- what a batch's head line says
abbrev pub head_of : Batch → HeadLine
head_of b = record { version = b.version; agent = b.agent; seq = b.seq; count = length b.records }

-- the lines of a batch
abbrev pub batch_lines : Batch → List (List ℕ)
batch_lines b = head_line (head_of b) ∷ map record_line b.records

-- the lines with their line feeds are the batch's text
pub lines_are_text : (b : Batch) → flat_map ended (batch_lines b) ≡ batch_text b
lines_are_text b = ap (λ t. line_of_fields (head_fields b) ++ t) (flat_map-map ended record_line b.records)

-- ---- from reading

-- the lines and the rest behind them are the batch's, and its parts meet their rules
abbrev AreLines : List (List ℕ) → List ℕ → Batch → Type 0
AreLines ls rest b = (ls ≡ batch_lines b) × (rest ≡ []) × HeadLimits (head_of b) × All IsRecord b.records × (list_all (is_of_version b.version) b.records ≡ true)

-- a test that had to hold did
holds_true : {E : Type 0} (b : Bool) (e : E) (u : Unit {0}) → holds_or b e ≡ Ok u → b ≡ true
holds_true true e u h = refl
holds_true false e u h = absurd (cc)

empty_nil : (t : List ℕ) → is_empty t ≡ true → t ≡ []
empty_nil [] h = refl
empty_nil (c ∷ cs) h = absurd (false≢true h)

-- what each step of reading a batch's lines answered
batch_apart : (l : List ℕ) (ls : List (List ℕ)) (rest : List ℕ) (b : Batch) → batch_of_lines (l ∷ ls) rest ≡ Ok b
    → (x : HeadLine) × (rs : List Record) × (◌≡◌ {A = Batch} (record { version = x.version; agent = x.agent; seq = x.seq; records = rs }) b)
    × (head_in (fields_in l) ≡ Ok x) × (records_in x.version 2 x.count ls ≡ Ok rs) × (((length ls == x.count) && is_empty rest) ≡ true)
batch_apart l ls rest b h =
    let a = simp step_iff at h in
    let r = a.2 in
    let t = r.2 in
    let c : Batch = record { version = a.0.version; agent = a.0.agent; seq = a.0.seq; records = r.0 } in
    let test = (length ls == a.0.count) && is_empty rest in (
      a.0,
      r.0,
      ok_same c b t.2,
      at_line_ok 1 (head_in (fields_in l)) a.0 a.1,
      r.1,
      holds_true test Count t.0 (at_line_ok (a.0.count + 2) (holds_or test Count) t.0 t.1),
    )

-- a head line with another count
abbrev with_count : HeadLine → ℕ → HeadLine
with_count x n = record x { count = n }

-- lines that are read as a batch are that batch's, and nothing stands behind them
lines_read : (ls : List (List ℕ)) (rest : List ℕ) (b : Batch) → batch_of_lines ls rest ≡ Ok b → AreLines ls rest b
lines_read [] rest b h = absurd (cc)
lines_read (l ∷ ls) rest b h =
    let a = batch_apart l ls rest b h in
    let tests = and_parts (length ls == a.0.count) (is_empty rest) a.5 in
    let records = records_read a.0.version 2 a.0.count ls a.1 a.4 (eqb-true (length ls) a.0.count tests.0) in
    let same = ap (with_count a.0) (sym records.1) in
    let head = subst (λ (x : HeadLine). (l ≡ head_line x) × HeadLimits x) same (head_read l a.0 a.3) in
    subst (AreLines (l ∷ ls) rest) a.2 (ap₂ ◌∷◌ head.0 records.0, empty_nil rest tests.1, head.1, records.2, records.3)

-- the fault of a text above the limit of its length
abbrev too_long : BatchFault
too_long = record { code = TooLong; line = 1 }

-- what was answered after a test for a fault
not_too_long : {A E : Type 0} (b : Bool) (e : E) (r : Result A E) (x : A) → cond b (Err e) r ≡ Ok x → (b ≡ false) × (r ≡ Ok x)
not_too_long true e r x h = absurd (cc)
not_too_long false e r x h = (refl, h)

-- a text that is read as a batch is that batch's
pub batch_read : (text : List ℕ) (b : Batch) → batch_in text ≡ Ok b → IsBatch text b
batch_read text b h =
    let ls = lines_in text in
    let short = not_too_long (nat_lt 65_536 (length text)) too_long (batch_of_lines ls.lines ls.rest) b h in
    let p = lines_read ls.lines ls.rest b short.1 in
    record {
      joined =
          sym (lines_give_back text)
          ∙ ap₂ (λ lines rest. flat_map ended lines ++ rest) p.0 p.1
          ∙ append-nil (flat_map ended (batch_lines b))
          ∙ lines_are_text b;
      short = ltb-false 65_536 (length text) short.0;
      agent = p.2.agent;
      seq = p.2.seq;
      count = p.2.count;
      records = p.3;
      of_version = p.4;
    }

-- ---- to reading

-- a batch's lines, with nothing behind them, are read as it
lines_written : (b : Batch) → HeadLimits (head_of b) → All IsRecord b.records → list_all (is_of_version b.version) b.records ≡ true → batch_of_lines (batch_lines b) [] ≡ Ok b
lines_written b limits records fits =
    let counted = eq-eqb (length (map record_line b.records)) (length b.records) (length-map b.records record_line) in
    simp step_iff (
      head_of b,
      ap (at_line 1) (head_written (head_of b) limits),
      (
        b.records,
        records_written b.version 2 b.records records fits,
        (tt, ap (λ t. at_line (length b.records + 2) (holds_or (t && true) Count)) counted, refl),
      ),
    )

-- a batch's text is read as it
pub batch_written : (text : List ℕ) (b : Batch) → IsBatch text b → batch_in text ≡ Ok b
batch_written text b h =
    let limits : HeadLimits (head_of b) = record { agent = h.agent; seq = h.seq; count = h.count } in
    let feeds = and_from _ _ (head_lacks_feed (head_of b) limits) (records_lack_feed b.records h.records) in
    let lines = ap lines_in (h.joined ∙ sym (lines_are_text b)) ∙ lines_of_text (batch_lines b) feeds in
    cond-false (nat_lt 65_536 (length text)) (Err too_long) (batch_of_lines (lines_in text).lines (lines_in text).rest) (le-ltb 65_536 (length text) h.short)
    ∙ ap (λ (ls : Lines). batch_of_lines ls.lines ls.rest) lines
    ∙ lines_written b limits h.records h.of_version

-- a batch that was read is one that a text may be
pub IsWellFormed-read : (text : List ℕ) (b : Batch) → batch_in text ≡ Ok b → IsWellFormed b
IsWellFormed-read text b e =
    let is = batch_read text b e in
    subst (λ t. IsBatch t b) is.joined is
