-- No line of a kept text begins with an e: the head line begins with a K, a cut with a digit, a batch with its version, and a
-- record with its letter.
use Rattle.std.proofs.Common.{◌≡◌, true, false, not, List, [], ◌∷◌, ◌++◌, map, decimal, refl, ap, ◌∙◌}
use Rattle.std.specs.List.{join_with_byte}
use Rattle.std.proofs.lemmas.Bool.{and_from, not_from_false}
use Rattle.std.proofs.lemmas.List.Folds.{list_all-append}
use Rattle.metering_model.specs.declared.Kind.{Kind}
use Rattle.metering_model.specs.declared.Kind.TheVariants.{Usage, Purchase, Credit, Tax, Adjustment}
use Rattle.metering_model.specs.declared.Version.{Version}
use Rattle.metering_model.specs.declared.Version.TheVariants.{B1, B2}
use Rattle.metering_model.specs.Batch.{Record, Reads, Amends, kind_text, version_text}
use Rattle.metering_model.specs.BatchReading.{HeadLine, Lines}
use Rattle.metering_model.specs.Cut.{Cut}
use Rattle.metering_model.specs.Holding.{Holding}
use Rattle.metering_model.specs.KeptText.{KeptAmong, vote_cuts, kept_text}
use Rattle.metering_model.specs.Schedule.{TextLines}
use Rattle.metering_model.proofs.Decimals.{decimal_is_digits}
use Rattle.metering_model.proofs.LineLaws.{head_line, record_line}
use Rattle.metering_model.proofs.BatchLaws.{head_of, batch_lines}
use Rattle.metering_model.proofs.KeptLines.{cut_line, lines_of_batches}
use Rattle.metering_model.proofs.KeptLaws.{IsWritable, kept_lines, lines_of_kept_text}
use Rattle.transcript_laws.proofs.TextLaws.{begins_not}
use Rattle.transcript_laws.proofs.FileLines.{begins_with_e, are_plain, digits_begin}
use Rattle.transcript_laws.proofs.ReplyLines.{IsKeptShown}

plain_both : (ls ms : TextLines) → are_plain ls ≡ true → are_plain ms ≡ true → are_plain (ls ++ ms) ≡ true
plain_both ls ms h k = list_all-append (λ l. not (begins_with_e l)) ls ms ∙ and_from _ _ h k

cut_begins : (cut : Cut) → begins_with_e (cut_line cut) ≡ false
cut_begins [] = refl
cut_begins (x ∷ []) = digits_begin (decimal x) (decimal_is_digits x)
cut_begins (x ∷ y ∷ ys) = begins_not 101 (decimal x) (124 ∷ join_with_byte 124 (map decimal (y ∷ ys))) (digits_begin (decimal x) (decimal_is_digits x)) refl

cuts_plain : (cuts : List Cut) → are_plain (map cut_line cuts) ≡ true
cuts_plain [] = refl
cuts_plain (c ∷ cs) = and_from _ _ (not_from_false _ (cut_begins c)) (cuts_plain cs)

kind_begins : (k : Kind) → begins_with_e (kind_text k) ≡ false
kind_begins Usage = refl
kind_begins Purchase = refl
kind_begins Credit = refl
kind_begins Tax = refl
kind_begins Adjustment = refl

record_begins : (r : Record) → begins_with_e (record_line r) ≡ false
record_begins (Reads r) = begins_not 101 (kind_text r.kind) _ (kind_begins r.kind) refl
record_begins (Amends seq index value) = refl

records_plain : (rs : List Record) → are_plain (map record_line rs) ≡ true
records_plain [] = refl
records_plain (r ∷ rs) = and_from _ _ (not_from_false _ (record_begins r)) (records_plain rs)

version_begins : (v : Version) → begins_with_e (version_text v) ≡ false
version_begins B1 = refl
version_begins B2 = refl

head_begins : (h : HeadLine) → begins_with_e (head_line h) ≡ false
head_begins h = begins_not 101 (version_text h.version) _ (version_begins h.version) refl

batches_plain : (h : Holding) → are_plain (lines_of_batches h) ≡ true
batches_plain [] = refl
batches_plain (b ∷ h) = plain_both (batch_lines b) (lines_of_batches h) (and_from _ _ (not_from_false _ (head_begins (head_of b))) (records_plain b.records)) (batches_plain h)

lines_plain : (k : KeptAmong) → are_plain (kept_lines k) ≡ true
lines_plain k =
    let cuts = k.kept.learned ++ vote_cuts k.kept.acceptor.vote in
    and_from _ _ refl (plain_both (map cut_line cuts) (lines_of_batches k.kept.holding) (cuts_plain cuts) (batches_plain k.kept.holding))

pub kept_text_shown : (k : KeptAmong) → IsWritable k → IsKeptShown (kept_text k)
kept_text_shown k h =
    let is = lines_of_kept_text k h in
    record {
      ended = ap (λ (x : Lines). x.rest) is;
      plain = ap (λ (x : Lines). are_plain x.lines) is ∙ lines_plain k;
    }
