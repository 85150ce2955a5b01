-- What is kept, record by record.
use Rattle.std.proofs.Common.{◌≡◌, ℕ, zero, suc, ◌+◌, ◌<◌, ◌⊎◌, List, [], ◌∷◌, ◌++◌, length, drop, Some, Ok, Err, refl, sym, ap, subst, ◌∙◌, inl, inr, arith, length-append}
use Rattle.std.specs.List.{slice_get}
use Rattle.std.proofs.lemmas.List.{drop-drop}
use Rattle.metering_model.specs.declared.Version.{Version}
use Rattle.metering_model.specs.declared.BatchCode.{BatchCode}
use Rattle.metering_model.specs.BatchReading.{lines_in, records_in}
use Rattle.std.specs.Prelude.{IsOk}
use Rattle.batch_view.specs.Inner.Lines.{IsBehindLines, IsHeadOf, first_record, lines_from}
use Rattle.batch_view.specs.Inner.Entries.{IsEntry, AreEntries, KeepsRecord}
use Rattle.batch_view.specs.Inner.Kept.{KeepsEntries, KeepsBatch}
use Rattle.batch_view.specs.declared.entries.Entry.{Entry}
use Rattle.batch_view.specs.declared.head.Head.{Head}
use Rattle.batch_view.proofs.LineLemmas.{one_more_line}
use Rattle.batch_view.proofs.RecordLemmas.{fault_at, one_more_record}

-- an item of a list with one more is one of the list, or the one more
got_of_more : {A : Type 0} (xs : List A) (y : A) (k : ℕ) (x : A) → slice_get (xs ++ y ∷ []) k ≡ Some x → (slice_get xs k ≡ Some x) ⊎ ((k ≡ length xs) × (y ≡ x))
got_of_more [] y zero x e = inr (refl, cc)
got_of_more [] y (suc k) x e = absurd (cc)
got_of_more (z ∷ xs) y zero x e = inl e
got_of_more (z ∷ xs) y (suc k) x e = by_rest (got_of_more xs y k x e)
  where
    by_rest : (slice_get xs k ≡ Some x) ⊎ ((k ≡ length xs) × (y ≡ x)) → (slice_get (z ∷ xs) (suc k) ≡ Some x) ⊎ ((suc k ≡ length (z ∷ xs)) × (y ≡ x))
    by_rest (inl h) = inl h
    by_rest (inr h) = inr (omega (arith, h.0), h.1)

one_more_entry : (version : Version) (text : List ℕ) (es : List Entry) (e : Entry) → AreEntries version text es → IsEntry version text (length es) e → AreEntries version text (es ++ e ∷ [])
one_more_entry version text es e each is k x h = by_place (got_of_more es e k x h)
  where
    by_place : (slice_get es k ≡ Some x) ⊎ ((k ≡ length es) × (e ≡ x)) → IsEntry version text k x
    by_place (inl g) = each k x g
    by_place (inr g) = subst (λ n. IsEntry version text n x) (sym g.0) (subst (IsEntry version text (length es)) g.1 is)

-- the lines behind the head and so many records
lines_behind : (text : List ℕ) (index at : ℕ) → IsBehindLines text (index + 1) at → drop index (drop 1 (lines_in text).lines) ≡ (lines_from text at).lines
lines_behind text index at behind =
    let next : 1 + index ≡ index + 1 = omega arith in
    drop-drop index 1 (lines_in text).lines ∙ ap (λ n. drop n (lines_in text).lines) next ∙ sym behind.lines

pub keeps_more : (version : Version) (text : List ℕ) (index at : ℕ) (es : List Entry) (e : Entry) (next : ℕ) → KeepsEntries version text index at es → KeepsRecord version text at e next
    → KeepsEntries version text (index + 1) next (es ++ e ∷ [])
keeps_more version text index at es e next kept here =
    let line = one_more_line text (index + 1) at here.span kept.behind here.is_line in
    let stands : first_record version (drop (index + 1) (lines_in text).lines) ≡ Ok here.at.what = ap (first_record version) line.left ∙ here.at.read in
    let read = ap (first_record version) (lines_behind text index at kept.behind ∙ kept.behind.lines) ∙ stands in
    let more : suc index ≡ index + 1 = omega arith in
    let entry : IsEntry version text index e = record { line = here.span; is_line = line.spot; at = here.at; stands = stands } in
    record {
      good = subst (λ n. IsOk (records_in version 2 n (drop 1 (lines_in text).lines))) more (one_more_record version 2 index (drop 1 (lines_in text).lines) _ kept.good read);
      behind = subst (IsBehindLines text (index + 1 + 1)) (sym here.behind) line.behind;
      each = one_more_entry version text es e kept.each (subst (λ n. IsEntry version text n e) (sym kept.many) entry);
      many = omega (arith, kept.many, length-append es (e ∷ []));
    }

-- the first record that can't be read is the fault
pub keeps_fault : (version : Version) (text : List ℕ) (count index at : ℕ) (es : List Entry) (code : BatchCode) → KeepsEntries version text index at es → index < count
    → first_record version (lines_from text at).lines ≡ Err code → records_in version 2 count (drop 1 (lines_in text).lines) ≡ Err (record { code = code; line = index + 2 })
keeps_fault version text count index at es code kept within fault =
    let place : 2 + index ≡ index + 2 = omega arith in
    fault_at version 2 count index (drop 1 (lines_in text).lines) code kept.good within (ap (first_record version) (lines_behind text index at kept.behind) ∙ fault)
    ∙ ap (λ line. Err (record { code = code; line = line })) place

-- where the bytes are a batch, each of its records has its entry
pub keeps_batch : (bytes : List ℕ) (h : Head) (at : ℕ) (es : List Entry) → KeepsEntries h.version bytes h.count at es → IsHeadOf bytes h → KeepsBatch bytes h es
keeps_batch bytes h at es kept head =
    record { head = head; entries = record { each = kept.each; many = kept.many ∙ head.count } }
