-- Lines are read as a head and records exactly where they are joined from their fields.
use Rattle.std.proofs.Common.{◌≡◌, ℕ, zero, suc, ◌+◌, ◌≤◌, true, not, List, [], ◌∷◌, length, map, All, Some, Result, Ok, Err, decimal, refl, sym, ap, ap₂, ◌∙◌, subst, arith}
use Rattle.std.specs.Prelude.{◌==◌}
use Rattle.std.specs.List.{list_all, join_with_byte}
use Rattle.std.proofs.lemmas.Bool.{and_parts, and_from}
use Rattle.std.proofs.lemmas.List.Elements.{All-nil, All-cons, All-head, All-tail}
use Rattle.metering_model.specs.Batch.{Version, B1, B2, version_text, Record, Reads, Amends, IsRecord, is_of_version, record_fields, lacks}
use Rattle.metering_model.specs.BatchReading.{BatchCode, HeadLine, head_in, record_in, records_in, fields_in, at_line, version_in, whole_in}
use Rattle.metering_model.proofs.StepLaws.{step_iff, some_iff, ok_same}
use Rattle.metering_model.proofs.FieldLaws.{version_read, version_written, whole_read, whole_written}
use Rattle.metering_model.proofs.FieldBytes.{is_inner, decimal_is_inner, inner_lacks_bar, inner_lacks_feed}
use Rattle.metering_model.proofs.RecordLaws.{record_read, record_written, fields_are_inner}
use Rattle.metering_model.proofs.Splitting.{cut_join, join_cut, parts_lack, join_passes, list_all_weaker}

-- ---- fields in a line

-- fields without bytes at which a text is cut have no `|`
pub bars_lack : (fs : List (List ℕ)) → list_all (list_all is_inner) fs ≡ true → list_all (lacks 124) fs ≡ true
bars_lack fs h = list_all_weaker (list_all is_inner) (lacks 124) inner_lacks_bar fs h

-- and their line has no line feed
pub line_lacks_feed : (fs : List (List ℕ)) → list_all (list_all is_inner) fs ≡ true → lacks 10 (join_with_byte 124 fs) ≡ true
line_lacks_feed fs h =
    join_passes (λ c. not (c == 10)) 124 fs refl (list_all_weaker (list_all is_inner) (lacks 10) inner_lacks_feed fs h)

-- ---- the head line

-- the fields of the head line that says so
abbrev pub head_line_fields : HeadLine → List (List ℕ)
head_line_fields h = version_text h.version ∷ decimal h.agent ∷ decimal h.seq ∷ decimal h.count ∷ []

-- its numbers are within their limits
pub record HeadLimits (h : HeadLine) : Type 0 where
  pub agent : (1 ≤ h.agent) × (h.agent ≤ 64)
  pub seq : (1 ≤ h.seq) × (h.seq ≤ 1_000_000)
  pub count : h.count ≤ 1_000

abbrev IsHead : List (List ℕ) → HeadLine → Type 0
IsHead fs h = (fs ≡ head_line_fields h) × HeadLimits h

-- what each step of reading the head's fields answered
head_apart : (version agent seq count : List ℕ) (x : HeadLine) → head_in (version ∷ agent ∷ seq ∷ count ∷ []) ≡ Ok x
    → (y : HeadLine) × (y ≡ x) × (version_in version ≡ Some y.version) × (whole_in 1 64 agent ≡ Some y.agent) × (whole_in 1 1_000_000 seq ≡ Some y.seq)
    × (whole_in 0 1_000 count ≡ Some y.count)
head_apart version agent seq count x h =
    let v = simp some_iff at h in
    let a = v.2 in
    let s = a.2 in
    let n = s.2 in
    let y : HeadLine = record { version = v.0; agent = a.0; seq = s.0; count = n.0 } in
    (y, ok_same y x n.2, v.1, a.1, s.1, n.1)

-- fields that are read as a head line are its fields
head_fields_read : (fs : List (List ℕ)) (x : HeadLine) → head_in fs ≡ Ok x → IsHead fs x
head_fields_read (version ∷ agent ∷ seq ∷ count ∷ []) x h =
    let p = head_apart version agent seq count x h in
    let a = whole_read 1 64 agent p.0.agent (omega arith) p.3 in
    let s = whole_read 1 1_000_000 seq p.0.seq (omega arith) p.4 in
    let n = whole_read 0 1_000 count p.0.count (omega arith) p.5 in
    subst (IsHead (version ∷ agent ∷ seq ∷ count ∷ [])) p.1 (
      ap₂ ◌∷◌ (version_read version p.0.version p.2) (ap₂ ◌∷◌ a.0 (ap₂ ◌∷◌ s.0 (ap (λ t. t ∷ []) n.0))),
      record { agent = (a.1, a.2); seq = (s.1, s.2); count = n.2 },
    )
head_fields_read fs x h = absurd (cc)

-- its fields are read as it
head_fields_written : (x : HeadLine) → HeadLimits x → head_in (head_line_fields x) ≡ Ok x
head_fields_written x h =
    simp (version_written x.version, whole_written 1 64 x.agent (omega arith) h.agent.0 h.agent.1, whole_written 1 1_000_000 x.seq (omega arith) h.seq.0 h.seq.1, whole_written 0 1_000 x.count (omega arith) (omega arith) h.count)

version_is_inner : (v : Version) → list_all is_inner (version_text v) ≡ true
version_is_inner B1 = refl
version_is_inner B2 = refl

head_is_inner : (x : HeadLine) → HeadLimits x → list_all (list_all is_inner) (head_line_fields x) ≡ true
head_is_inner x h =
    simp (version_is_inner x.version, decimal_is_inner x.agent (omega arith), decimal_is_inner x.seq (omega arith), decimal_is_inner x.count (omega arith))

abbrev pub head_line : HeadLine → List ℕ
head_line x = join_with_byte 124 (head_line_fields x)

-- a line that is read as a head line is its text
pub head_read : (l : List ℕ) (x : HeadLine) → head_in (fields_in l) ≡ Ok x → (l ≡ head_line x) × HeadLimits x
head_read l x h =
    let r = head_fields_read (fields_in l) x h in
    (sym (join_cut 124 l) ∙ ap (join_with_byte 124) r.0, r.1)

-- its text is read as it
pub head_written : (x : HeadLine) → HeadLimits x → head_in (fields_in (head_line x)) ≡ Ok x
head_written x h = ap head_in (cut_join 124 (version_text x.version) (decimal x.agent ∷ decimal x.seq ∷ decimal x.count ∷ []) (bars_lack (head_line_fields x) (head_is_inner x h))) ∙ head_fields_written x h

pub head_lacks_feed : (x : HeadLine) → HeadLimits x → lacks 10 (head_line x) ≡ true
head_lacks_feed x h = line_lacks_feed (head_line_fields x) (head_is_inner x h)

-- ---- one record

abbrev pub record_line : Record → List ℕ
record_line r = join_with_byte 124 (record_fields r)

-- a line that is read as a record is its text, and the record meets its rules and is of the version
line_read : (version : Version) (l : List ℕ) (r : Record) → record_in version (fields_in l) ≡ Ok r → (l ≡ record_line r) × IsRecord r × (is_of_version version r ≡ true)
line_read version l r h =
    let a = record_read version (fields_in l) r h (parts_lack 124 l) in
    (sym (join_cut 124 l) ∙ ap (join_with_byte 124) a.0, a.1, a.2)

-- the fields that a record's line was joined from come back
fields_back : (r : Record) → list_all (lacks 124) (record_fields r) ≡ true → fields_in (record_line r) ≡ record_fields r
fields_back (Reads r) h = cut_join 124 _ _ h
fields_back (Amends seq index value) h = cut_join 124 _ _ h

-- the text of a record that meets its rules is read as it
line_written : (version : Version) (r : Record) → IsRecord r → is_of_version version r ≡ true → record_in version (fields_in (record_line r)) ≡ Ok r
line_written version r h fits = ap (record_in version) (fields_back r (bars_lack (record_fields r) (fields_are_inner r h))) ∙ record_written version r h fits

-- ---- all records

-- to say the line of a fault changes no answer
pub at_line_ok : {A : Type 0} (line : ℕ) (r : Result A BatchCode) (x : A) → at_line line r ≡ Ok x → r ≡ Ok x
at_line_ok line (Ok y) x h = ap Ok (ok_same y x h)
at_line_ok line (Err c) x h = absurd (cc)

-- so many lines are those records' lines
abbrev pub AreRead : Version → ℕ → List (List ℕ) → List Record → Type 0
AreRead version n ls rs = (ls ≡ map record_line rs) × (length rs ≡ n) × All IsRecord rs × (list_all (is_of_version version) rs ≡ true)

-- what the first line and the others were read as
records_apart : (version : Version) (line n : ℕ) (l : List ℕ) (ls : List (List ℕ)) (rs : List Record) → records_in version line (suc n) (l ∷ ls) ≡ Ok rs → (r : Record) × (rest : List Record) × (r ∷ rest ≡ rs) × (record_in version (fields_in l) ≡ Ok r) × (records_in version (line + 1) n ls ≡ Ok rest)
records_apart version line n l ls rs h =
    let a = simp step_iff at h in
    let b = a.2 in
    (a.0, b.0, ok_same (a.0 ∷ b.0) rs b.2, at_line_ok line (record_in version (fields_in l)) a.0 a.1, b.1)

-- lines that are read as records are their texts
pub records_read : (version : Version) (line n : ℕ) (ls : List (List ℕ)) (rs : List Record) → records_in version line n ls ≡ Ok rs → length ls ≡ n → AreRead version n ls rs
records_read version line zero [] rs h e = subst (AreRead version 0 []) (ok_same [] rs h) (refl, refl, All-nil IsRecord, refl)
records_read version line zero (l ∷ ls) rs h e = absurd (omega arith)
records_read version line (suc n) [] rs h e = absurd (cc)
records_read version line (suc n) (l ∷ ls) rs h e =
    let a = records_apart version line n l ls rs h in
    let one = line_read version l a.0 a.3 in
    let more = records_read version (line + 1) n ls a.1 a.4 (omega arith) in
    subst (AreRead version (suc n) (l ∷ ls)) a.2 (ap₂ ◌∷◌ one.0 more.0, ap suc more.1, All-cons IsRecord a.0 a.1 one.1 more.2, and_from _ _ one.2 more.3)

-- the texts of records are read as them
pub records_written : (version : Version) (line : ℕ) (rs : List Record) → All IsRecord rs → list_all (is_of_version version) rs ≡ true → records_in version line (length rs) (map record_line rs) ≡ Ok rs
records_written version line [] h fits = refl
records_written version line (r ∷ rs) h fits =
    let both = and_parts (is_of_version version r) (list_all (is_of_version version) rs) fits in
    simp step_iff (
      r,
      ap (at_line line) (line_written version r (All-head IsRecord r rs h) both.0),
      (rs, records_written version (line + 1) rs (All-tail IsRecord r rs h) both.1, refl),
    )

pub records_lack_feed : (rs : List Record) → All IsRecord rs → list_all (lacks 10) (map record_line rs) ≡ true
records_lack_feed [] h = refl
records_lack_feed (r ∷ rs) h =
    and_from _ _ (line_lacks_feed (record_fields r) (fields_are_inner r (All-head IsRecord r rs h))) (records_lack_feed rs (All-tail IsRecord r rs h))
