-- The records of a batch, read one by one from the front.
use Rattle.std.proofs.Common.{◌≡◌, ℕ, zero, suc, ◌+◌, ◌<◌, ◌≤◌, List, [], ◌∷◌, length, drop, Result, Ok, Err, refl, sym, ap, ◌∙◌, arith}
use Rattle.std.specs.Prelude.{IsOk, is_ok, Some}
use Rattle.std.specs.List.{slice_get}
use Rattle.metering_model.specs.Batch.{Record}
use Rattle.metering_model.specs.declared.Version.{Version}
use Rattle.metering_model.specs.declared.BatchCode.{BatchCode}
use Rattle.metering_model.specs.declared.BatchFault.{BatchFault}
use Rattle.metering_model.specs.BatchReading.{at_line, records_in}
use Rattle.metering_model.specs.FirstFailure.{◌>>=◌}
use Rattle.batch_view.specs.Inner.Lines.{first_record}

-- one record more, before the others
abbrev onto : Record → Result (List Record) BatchFault → Result (List Record) BatchFault
onto r rest = rest >>= (λ rs. Ok (r ∷ rs))

-- the first record, then the others
records_step : (version : Version) (line n : ℕ) (ls : List (List ℕ)) → records_in version line (suc n) ls ≡ (at_line line (first_record version ls) >>= (λ r. onto r (records_in version (line + 1) n (drop 1 ls))))
records_step version line n [] = refl
records_step version line n (l ∷ ls) = refl

-- ---- steps that may fail

-- a step that went well, and what came after it
pub bind_ok : {A B E : Type 0} (r : Result A E) (f : A → Result B E) (y : B) → (r >>= f) ≡ Ok y → (x : A) × (r ≡ Ok x) × (f x ≡ Ok y)
bind_ok (Ok x) f y e = (x, refl, e)
bind_ok (Err d) f y e = absurd (cc)

pub ok_is : {A E : Type 0} (r : Result A E) → IsOk r → (x : A) × (r ≡ Ok x)
ok_is (Ok x) h = (x, refl)
ok_is (Err d) h = absurd (cc)

pub is_ok_at : {A E : Type 0} (r : Result A E) (x : A) → r ≡ Ok x → IsOk r
is_ok_at r x e = ap is_ok e

at_line_ok : {A : Type 0} (line : ℕ) (r : Result A BatchCode) (x : A) → at_line line r ≡ Ok x → r ≡ Ok x
at_line_ok line (Ok y) x e = cc
at_line_ok line (Err d) x e = absurd (cc)

-- ---- so many records

-- the parts of a reading that goes well
pub record Reads (version : Version) (line n : ℕ) (ls : List (List ℕ)) (rs : List Record) : Type 0 where
  pub first : Record
  pub others : List Record
  pub is_first : first_record version ls ≡ Ok first
  pub are_others : records_in version (line + 1) n (drop 1 ls) ≡ Ok others
  pub joined : rs ≡ first ∷ others

reads : (version : Version) (line n : ℕ) (ls : List (List ℕ)) (rs : List Record) → records_in version line (suc n) ls ≡ Ok rs → Reads version line n ls rs
reads version line n ls rs e =
    let first = bind_ok (at_line line (first_record version ls)) (λ r. onto r (records_in version (line + 1) n (drop 1 ls))) rs (sym (records_step version line n ls) ∙ e) in
    let others = bind_ok (records_in version (line + 1) n (drop 1 ls)) (λ xs. Ok (first.0 ∷ xs)) rs first.2 in
    record {
      first = first.0;
      others = others.0;
      is_first = at_line_ok line (first_record version ls) first.0 first.1;
      are_others = others.1;
      joined = cc;
    }

pub length-records_in : (version : Version) (line n : ℕ) (ls : List (List ℕ)) (rs : List Record) → records_in version line n ls ≡ Ok rs → length rs ≡ n
length-records_in version line zero ls rs e = let none : rs ≡ [] = cc in omega (arith, ap length none)
length-records_in version line (suc n) ls rs e =
    let r = reads version line n ls rs e in
    omega (arith, ap length r.joined, length-records_in version (line + 1) n (drop 1 ls) r.others r.are_others)

-- there are lines enough
pub enough_lines : (version : Version) (line n : ℕ) (ls : List (List ℕ)) (rs : List Record) → records_in version line n ls ≡ Ok rs → n ≤ length ls
enough_lines version line zero ls rs e = omega arith
enough_lines version line (suc n) [] rs e = absurd (cc)
enough_lines version line (suc n) (l ∷ ls) rs e =
    let r = reads version line n (l ∷ ls) rs e in
    omega (arith, enough_lines version (line + 1) n ls r.others r.are_others)

-- the first record that can't be read is the fault
pub fault_at : (version : Version) (line n i : ℕ) (ls : List (List ℕ)) (code : BatchCode) → IsOk (records_in version line i ls) → i < n → first_record version (drop i ls) ≡ Err code → records_in version line n ls ≡ Err (record { code = code; line = line + i })
fault_at version line zero i ls code before within fault = absurd (omega arith)
fault_at version line (suc n) zero ls code before within fault =
    let here : line + 0 ≡ line = omega arith in
    rw here (records_step version line n ls ∙ ap (λ r. at_line line r >>= (λ x. onto x (records_in version (line + 1) n (drop 1 ls)))) fault)
fault_at version line (suc n) (suc i) [] code before within fault = let none = ok_is (records_in version line (suc i) []) before in absurd (cc none.1)
fault_at version line (suc n) (suc i) (l ∷ ls) code before within fault =
    let some = ok_is (records_in version line (suc i) (l ∷ ls)) before in
    let r = reads version line i (l ∷ ls) some.0 some.1 in
    let later = fault_at version (line + 1) n i ls code (is_ok_at (records_in version (line + 1) i ls) r.others r.are_others) (omega arith) fault in
    let there : line + 1 + i ≡ line + suc i = omega arith in
    records_step version line n (l ∷ ls)
    ∙ ap (λ x. at_line line x >>= (λ y. onto y (records_in version (line + 1) n ls))) r.is_first
    ∙ ap (onto r.first) later
    ∙ ap (λ m. Err (record { code = code; line = m })) there

-- one record more
pub one_more_record : (version : Version) (line n : ℕ) (ls : List (List ℕ)) (r : Record) → IsOk (records_in version line n ls) → first_record version (drop n ls) ≡ Ok r → IsOk (records_in version line (suc n) ls)
one_more_record version line zero ls r before is =
    is_ok_at (records_in version line 1 ls) (r ∷ []) (records_step version line 0 ls ∙ ap (λ x. at_line line x >>= (λ y. onto y (records_in version (line + 1) 0 (drop 1 ls)))) is)
one_more_record version line (suc n) [] r before is = let none = ok_is (records_in version line (suc n) []) before in absurd (cc none.1)
one_more_record version line (suc n) (l ∷ ls) r before is =
    let some = ok_is (records_in version line (suc n) (l ∷ ls)) before in
    let p = reads version line n (l ∷ ls) some.0 some.1 in
    let later = one_more_record version (line + 1) n ls r (is_ok_at (records_in version (line + 1) n ls) p.others p.are_others) is in
    let all = ok_is (records_in version (line + 1) (suc n) ls) later in
    is_ok_at (records_in version line (suc (suc n)) (l ∷ ls)) (p.first ∷ all.0)
    (records_step version line (suc n) (l ∷ ls)
    ∙ ap (λ x. at_line line x >>= (λ y. onto y (records_in version (line + 1) (suc n) ls))) p.is_first
    ∙ ap (onto p.first) all.1)

-- What stands at an index, of the lines and of the records.
pub record RecordAt (version : Version) (n : ℕ) (ls : List (List ℕ)) (rs : List Record) : Type 0 where
  pub one : Record
  pub read : first_record version (drop n ls) ≡ Ok one
  pub got : slice_get rs n ≡ Some one
  pub left : drop n rs ≡ one ∷ drop (suc n) rs

pub record_at : (version : Version) (line n i : ℕ) (ls : List (List ℕ)) (rs : List Record) → records_in version line n ls ≡ Ok rs → i < n → RecordAt version i ls rs
record_at version line zero i ls rs e within = absurd (omega arith)
record_at version line (suc n) zero ls rs e within =
    let p = reads version line n ls rs e in
    record { one = p.first; read = p.is_first; got = ap (λ xs. slice_get xs 0) p.joined; left = p.joined ∙ ap (λ xs. p.first ∷ xs) (sym (ap (drop 1) p.joined)) }
record_at version line (suc n) (suc i) [] rs e within = absurd (cc)
record_at version line (suc n) (suc i) (l ∷ ls) rs e within =
    let p = reads version line n (l ∷ ls) rs e in
    let q = record_at version (line + 1) n i ls p.others p.are_others (omega arith) in
    record {
      one = q.one;
      read = q.read;
      got = ap (λ xs. slice_get xs (suc i)) p.joined ∙ q.got;
      left = ap (drop (suc i)) p.joined ∙ q.left ∙ ap (λ xs. q.one ∷ xs) (sym (ap (drop (suc (suc i))) p.joined));
    }
