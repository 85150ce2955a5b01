-- A text is a batch, or has its first fault, by its head line, its records and its end.
use Rattle.std.proofs.Common.{◌≡◌, ℕ, suc, ◌+◌, ◌<◌, ◌≤◌, ◌==◌, ◌&&◌, ◌⊎◌, ◌↔◌, Bool, true, false, List, [], ◌∷◌, length, drop, Option, Some, None, IsSome, IfSome, Ok, Err, refl, sym, ap, subst, ◌∙◌, inl, inr, arith, length-drop}
use Rattle.std.specs.List.{slice_get, position}
use Rattle.std.proofs.lemmas.Bool.{cond-true, cond-false, le-ltb, lt-ltb, eqb-true, eq-eqb, false≢true, cases_Bool, and_left, and_right, and_from}
use Rattle.std.proofs.lemmas.List.{drop-drop, drop_all, nil_from_length}
use Rattle.metering_model.specs.Batch.{Batch, Record, is_empty}
use Rattle.metering_model.specs.declared.Version.{Version}
use Rattle.metering_model.specs.declared.BatchCode.{BatchCode}
use Rattle.metering_model.specs.declared.BatchCode.TheVariants.{Head as HeadCode, Count, TooLong}
use Rattle.metering_model.specs.declared.BatchFault.{BatchFault}
use Rattle.metering_model.specs.BatchReading.{at_line, records_in, fields_in, head_in, lines_in, batch_in, batch_below, batch_of_lines}
use Rattle.metering_model.proofs.BatchLaws.{batch_read}
use Rattle.metering_model.specs.FirstFailure.{◌>>=◌, holds_or}
use Rattle.record_view.specs.Lent.{record_of}
use Rattle.batch_view.specs.Batches.{batch_of, IsLentAt, GivesNext}
use Rattle.batch_view.specs.Inner.Lines.{AreBatch, lines_from, first_record, head_line, HasNoLine, IsBehindLines, LendsRecord, BeginsWithHead, IsHeadOf}
use Rattle.batch_view.specs.declared.head.Head.{Head}
use Rattle.record_view.specs.declared.records.Record.{Record as LentRecord}
use Rattle.batch_view.proofs.LineLemmas.{one_more_line}
use Rattle.record_view.proofs.LineLemmas.{lines_at_feed, lines_without_feed}
use Rattle.batch_view.proofs.RecordLemmas.{bind_ok, length-records_in, enough_lines, record_at}

pub batch_of_is : (bytes : List ℕ) (b : Batch) → batch_in bytes ≡ Ok b → batch_of bytes ≡ b
unfolding batch_of
batch_of_is bytes b e = rw e refl

-- ---- the text, from its head on

pub too_long : (bytes : List ℕ) → 65_536 < length bytes → batch_in bytes ≡ Err (record { code = TooLong; line = 1 })
too_long bytes long = cond-true _ _ _ (lt-ltb 65_536 (length bytes) long)

by_lines : (bytes : List ℕ) → length bytes ≤ 65_536 → batch_in bytes ≡ batch_of_lines (lines_in bytes).lines (lines_in bytes).rest
by_lines bytes short = cond-false _ _ _ (le-ltb 65_536 (length bytes) short)

pub no_first_line : (bytes : List ℕ) → length bytes ≤ 65_536 → (lines_in bytes).lines ≡ [] → batch_in bytes ≡ Err (record { code = HeadCode; line = 1 })
no_first_line bytes short none = by_lines bytes short ∙ ap (λ ls. batch_of_lines ls (lines_in bytes).rest) none

by_head : (bytes line : List ℕ) → length bytes ≤ 65_536 → (lines_in bytes).lines ≡ line ∷ drop 1 (lines_in bytes).lines → batch_in bytes ≡ (at_line 1 (head_in (fields_in line)) >>= batch_below (drop 1 (lines_in bytes).lines) (lines_in bytes).rest)
by_head bytes line short first = by_lines bytes short ∙ ap (λ ls. batch_of_lines ls (lines_in bytes).rest) first

pub head_fault : (bytes line : List ℕ) → length bytes ≤ 65_536 → (lines_in bytes).lines ≡ line ∷ drop 1 (lines_in bytes).lines → head_in (fields_in line) ≡ Err HeadCode → batch_in bytes ≡ Err (record { code = HeadCode; line = 1 })
head_fault bytes line short first fault =
    by_head bytes line short first ∙ ap (λ h. at_line 1 h >>= batch_below (drop 1 (lines_in bytes).lines) (lines_in bytes).rest) fault

by_records : (bytes : List ℕ) (h : Head) → length bytes ≤ 65_536 → BeginsWithHead bytes h → batch_in bytes ≡ batch_below (drop 1 (lines_in bytes).lines) (lines_in bytes).rest (head_line h)
by_records bytes h short begins =
    by_head bytes begins.head_text short begins.first
    ∙ ap (λ x. at_line 1 x >>= batch_below (drop 1 (lines_in bytes).lines) (lines_in bytes).rest) begins.head

abbrev all_read : List (List ℕ) → List ℕ → ℕ → Bool
all_read ls rest n = (length ls == n) && is_empty rest

abbrev whole : Head → List Record → Batch
whole h rs = record { version = h.version; agent = h.agent; seq = h.seq; records = rs }

pub records_fault : (bytes : List ℕ) (h : Head) (fault : BatchFault) → length bytes ≤ 65_536 → BeginsWithHead bytes h → records_in h.version 2 h.count (drop 1 (lines_in bytes).lines) ≡ Err fault → batch_in bytes ≡ Err fault
records_fault bytes h fault short begins bad =
    by_records bytes h short begins
    ∙ ap (λ x. x >>= (λ rs. at_line (h.count + 2) (holds_or (all_read (drop 1 (lines_in bytes).lines) (lines_in bytes).rest h.count) Count) >>= (λ _. Ok (whole h rs)))) bad

by_end : (bytes : List ℕ) (h : Head) (rs : List Record) → length bytes ≤ 65_536 → BeginsWithHead bytes h
    → records_in h.version 2 h.count (drop 1 (lines_in bytes).lines) ≡ Ok rs
    → batch_in bytes ≡ (at_line (h.count + 2) (holds_or (all_read (drop 1 (lines_in bytes).lines) (lines_in bytes).rest h.count) Count) >>=
    (λ _. Ok (whole h rs)))
by_end bytes h rs short begins good =
    by_records bytes h short begins
    ∙ ap (λ x. x >>= (λ rs. at_line (h.count + 2) (holds_or (all_read (drop 1 (lines_in bytes).lines) (lines_in bytes).rest h.count) Count) >>= (λ _. Ok (whole h rs)))) good

-- ---- the end

empty_text : (text : List ℕ) → (lines_in text).lines ≡ [] → (lines_in text).rest ≡ [] → text ≡ []
empty_text text no_line no_rest = by_place (position (λ (c : ℕ). c == 10) text) refl
  where
    by_place : (place : Option ℕ) → position (λ (c : ℕ). c == 10) text ≡ place → text ≡ []
    by_place (Some i) e = let some = ap (λ ls. ls.lines) (lines_at_feed text i e).1 in absurd (cc (some, no_line))
    by_place None e = sym (ap (λ ls. ls.rest) (lines_without_feed text e)) ∙ no_rest

-- bytes behind the last record
pub end_fault : (bytes : List ℕ) (h : Head) (rs : List Record) (end : ℕ) → length bytes ≤ 65_536 → BeginsWithHead bytes h
    → records_in h.version 2 h.count (drop 1 (lines_in bytes).lines) ≡ Ok rs → IsBehindLines bytes (h.count + 1) end → end < length bytes
    → batch_in bytes ≡ Err (record { code = Count; line = h.count + 2 })
end_fault bytes h rs end short begins good behind more =
    by_end bytes h rs short begins good
    ∙ ap (λ b. at_line (h.count + 2) (holds_or b Count) >>= (λ _. Ok (whole h rs))) (not_all (cases_Bool (length (drop 1 (lines_in bytes).lines) == h.count)) (cases_Bool (is_empty (lines_in bytes).rest)))
  where
    no_rest : (rest : List ℕ) → is_empty rest ≡ true → rest ≡ []
    no_rest [] e = refl
    no_rest (x ∷ xs) e = absurd (cc)

    impossible : length (drop 1 (lines_in bytes).lines) ≡ h.count → (lines_in bytes).rest ≡ [] → ⊥
    impossible enough none =
        let left : length (drop (h.count + 1) (lines_in bytes).lines) ≡ 0 = omega (arith, length-drop (h.count + 1) (lines_in bytes).lines, length-drop 1 (lines_in bytes).lines) in
        let empty = empty_text (drop end bytes) (behind.lines ∙ nil_from_length (drop (h.count + 1) (lines_in bytes).lines) left) (behind.rest ∙ none) in
        omega (arith, length-drop end bytes, ap length empty)

    not_all : ((length (drop 1 (lines_in bytes).lines) == h.count) ≡ true) ⊎ ((length (drop 1 (lines_in bytes).lines) == h.count) ≡ false)
        → (is_empty (lines_in bytes).rest ≡ true) ⊎ (is_empty (lines_in bytes).rest ≡ false)
        → all_read (drop 1 (lines_in bytes).lines) (lines_in bytes).rest h.count ≡ false
    not_all (inr few) e = and_left _ _ few
    not_all (inl enough) (inr some) = and_right _ _ some
    not_all (inl enough) (inl none) = absurd (impossible (eqb-true _ _ enough) (no_rest (lines_in bytes).rest none))

-- the records end where the bytes end
pub is_batch : (bytes : List ℕ) (h : Head) (rs : List Record) (end : ℕ) → length bytes ≤ 65_536 → BeginsWithHead bytes h → records_in h.version 2 h.count (drop 1 (lines_in bytes).lines) ≡ Ok rs → IsBehindLines bytes (h.count + 1) end → length bytes ≤ end → IsHeadOf bytes h
is_batch bytes h rs end short begins good behind last =
    let all = (lines_in bytes).lines in
    let nothing = drop_all end bytes last in
    let no_line : drop (h.count + 1) all ≡ [] = sym behind.lines ∙ ap (λ t. (lines_in t).lines) nothing in
    let no_rest : (lines_in bytes).rest ≡ [] = sym behind.rest ∙ ap (λ t. (lines_in t).rest) nothing in
    let enough = enough_lines h.version 2 h.count (drop 1 all) rs good in
    let just : length (drop 1 all) ≡ h.count = omega (arith, ap length no_line, length-drop (h.count + 1) all, length-drop 1 all) in
    let read : all_read (drop 1 all) (lines_in bytes).rest h.count ≡ true = and_from _ _ (eq-eqb _ _ just) (ap is_empty no_rest) in
    let batch = by_end bytes h rs short begins good ∙ ap (λ b. at_line (h.count + 2) (holds_or b Count) >>= (λ _. Ok (whole h rs))) read in
    let is = batch_of_is bytes (whole h rs) batch in
    record {
      are = record { short = short; batch = batch ∙ ap Ok (sym is) };
      version = sym (ap (λ b. b.version) is);
      agent = sym (ap (λ b. b.agent) is);
      seq = sym (ap (λ b. b.seq) is);
      count = sym (length-records_in h.version 2 h.count (drop 1 all) rs good) ∙ sym (ap (λ b. length b.records) is);
      behind = begins.behind;
    }

-- ---- the records of a batch, each at its index

records_of_batch : (bytes : List ℕ) (b : Batch) → batch_in bytes ≡ Ok b → length bytes ≤ 65_536 → (n : ℕ) × (records_in b.version 2 n (drop 1 (lines_in bytes).lines) ≡ Ok b.records)
records_of_batch bytes b e short = at_lines (lines_in bytes).lines (sym (by_lines bytes short) ∙ e)
  where
    at_lines : (ls : List (List ℕ)) → batch_of_lines ls (lines_in bytes).rest ≡ Ok b → (n : ℕ) × (records_in b.version 2 n (drop 1 ls) ≡ Ok b.records)
    at_lines [] e = absurd (cc)
    at_lines (l ∷ ls) e =
        let head = bind_ok (at_line 1 (head_in (fields_in l))) (batch_below ls (lines_in bytes).rest) b e in
        let records = bind_ok (records_in head.0.version 2 head.0.count ls) (λ rs. at_line (head.0.count + 2) (holds_or (all_read ls (lines_in bytes).rest head.0.count) Count) >>= (λ _. Ok (record { version = head.0.version; agent = head.0.agent; seq = head.0.seq; records = rs }))) b head.2 in
        let end = bind_ok (at_line (head.0.count + 2) (holds_or (all_read ls (lines_in bytes).rest head.0.count) Count)) (λ _. Ok (record { version = head.0.version; agent = head.0.agent; seq = head.0.seq; records = records.0 })) b records.2 in
        let read = records.1 in
        let is = end.2 in
        (head.0.count, cc)

-- What stands before a record that is there.
pub record There (bytes : List ℕ) (index : ℕ) : Type 0 where
  pub one : Record
  pub read : first_record (batch_of bytes).version (drop (index + 1) (lines_in bytes).lines) ≡ Ok one
  pub got : slice_get (batch_of bytes).records index ≡ Some one
  pub left : drop index (batch_of bytes).records ≡ one ∷ drop (index + 1) (batch_of bytes).records

pub there : (bytes : List ℕ) (index : ℕ) → AreBatch bytes → index < length (batch_of bytes).records → There bytes index
there bytes index are within =
    let all = records_of_batch bytes (batch_of bytes) are.batch are.short in
    let many = length-records_in (batch_of bytes).version 2 all.0 (drop 1 (lines_in bytes).lines) (batch_of bytes).records all.1 in
    let r = record_at (batch_of bytes).version 2 all.0 index (drop 1 (lines_in bytes).lines) (batch_of bytes).records all.1 (omega arith) in
    let next : 1 + index ≡ index + 1 = omega arith in
    let suc_is : suc index ≡ index + 1 = omega arith in
    record {
      one = r.one;
      read = ap (first_record (batch_of bytes).version) (sym (drop-drop index 1 (lines_in bytes).lines ∙ ap (λ n. drop n (lines_in bytes).lines) next)) ∙ r.read;
      got = r.got;
      left = r.left ∙ ap (λ n. r.one ∷ drop n (batch_of bytes).records) suc_is;
    }

-- what stands at a record's line can be read
pub never_fails : (version : Version) (bytes : List ℕ) (index at : ℕ) (code : BatchCode) → version ≡ (batch_of bytes).version → AreBatch bytes → index < length (batch_of bytes).records → IsBehindLines bytes (index + 1) at
    → first_record version (lines_from bytes at).lines ≡ Err code → ⊥
never_fails version bytes index at code format are within behind fault =
    let good = (there bytes index are within).read in
    let bad : first_record (batch_of bytes).version (drop (index + 1) (lines_in bytes).lines) ≡ Err code =
    ap (λ v. first_record v (drop (index + 1) (lines_in bytes).lines)) (sym format) ∙ ap (first_record version) (sym behind.lines) ∙ fault in
    cc

pub never_lacks : (version : Version) (bytes : List ℕ) (index at : ℕ) → version ≡ (batch_of bytes).version → AreBatch bytes → index < length (batch_of bytes).records → IsBehindLines bytes (index + 1) at → HasNoLine bytes at → ⊥
never_lacks version bytes index at format are within behind none =
    never_fails version bytes index at Count format are within behind (ap (λ ls. first_record version ls.lines) none)

-- What a record that was read at its line is of the batch.
pub record IsRecordOf (bytes : List ℕ) (index : ℕ) (r : LentRecord) (next : ℕ) : Type 0 where
  pub got : slice_get (batch_of bytes).records index ≡ Some (record_of r)
  pub left : drop index (batch_of bytes).records ≡ record_of r ∷ drop (index + 1) (batch_of bytes).records
  pub lent : IsLentAt bytes index r
  pub behind : IsBehindLines bytes (index + 2) next

pub record_read : (version : Version) (bytes : List ℕ) (index at : ℕ) (r : LentRecord) (next : ℕ) → version ≡ (batch_of bytes).version → AreBatch bytes → index < length (batch_of bytes).records → IsBehindLines bytes (index + 1) at → LendsRecord version bytes at r next
    → IsRecordOf bytes index r next
record_read version bytes index at r next format are within behind lends =
    let stands = there bytes index are within in
    let line = one_more_line bytes (index + 1) at lends.span behind lends.is_line in
    let read : first_record (batch_of bytes).version (drop (index + 1) (lines_in bytes).lines) ≡ Ok (record_of r) =
    ap (λ v. first_record v (drop (index + 1) (lines_in bytes).lines)) (sym format) ∙ ap (first_record version) line.left ∙ lends.record_is in
    let same : stands.one ≡ record_of r = let good = stands.read in cc in
    let two : index + 1 + 1 ≡ index + 2 = omega arith in
    record {
      got = stands.got ∙ ap Some same;
      left = stands.left ∙ ap (λ x. x ∷ drop (index + 1) (batch_of bytes).records) same;
      lent = record { span = lends.span; is_line = line.spot; lent = lends.lent };
      behind = subst (λ n. IsBehindLines bytes n next) two (subst (IsBehindLines bytes (index + 1 + 1)) (sym lends.behind) line.behind);
    }

-- a record that is looked up is the first that is left
pub gives_there : (bytes : List ℕ) (index : ℕ) (o : Option LentRecord) → AreBatch bytes → index < length (batch_of bytes).records
    → (IsSome o ↔ (index < length (batch_of bytes).records)) → IfSome o (λ r. slice_get (batch_of bytes).records index ≡ Some (record_of r)) → IfSome o (IsLentAt bytes index)
    → GivesNext (record { bytes = bytes; index = index }) o (record { bytes = bytes; index = index + 1 })
gives_there bytes index None are within there_is got lent = absurd (false≢true (there_is.1 within))
gives_there bytes index (Some r) are within there_is got lent =
    let stands = there bytes index are within in
    let same : stands.one ≡ record_of r = let one = stands.got in let other : slice_get (batch_of bytes).records index ≡ Some (record_of r) = got in cc in
    record { first = stands.left ∙ ap (λ x. x ∷ drop (index + 1) (batch_of bytes).records) same; lent = lent; walk = refl }

-- ---- the head

-- What the limits of the format say of a head.
pub record HeadLimits (h : Head) : Type 0 where
  pub agent : (1 ≤ h.agent) × (h.agent ≤ 64)
  pub seq : (1 ≤ h.seq) × (h.seq ≤ 1_000_000)
  pub count : h.count ≤ 1_000

pub head_limits : (bytes : List ℕ) (h : Head) → IsHeadOf bytes h → HeadLimits h
head_limits bytes h is =
    let b = batch_read bytes (batch_of bytes) is.are.batch in
    record {
      agent = (omega (arith, is.agent, b.agent.0), omega (arith, is.agent, b.agent.1));
      seq = (omega (arith, is.seq, b.seq.0), omega (arith, is.seq, b.seq.1));
      count = omega (arith, is.count, b.count);
    }
