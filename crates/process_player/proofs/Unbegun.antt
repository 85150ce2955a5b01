-- Where what is ahead falls short, what had come begins no process.
use Rattle.std.proofs.Common.{◌≡◌, ◌≢◌, ℕ, ◌+◌, ◌≤◌, Bool, true, false, cond, List, [], ◌∷◌, ◌++◌, length, take, drop, Option, Some, None, Ok, codes, refl, sym, ap, ap₂, subst, ◌∙◌, arith, append_assoc, append-nil, leb-true, le-leb}
use Rattle.std.specs.Prelude.{nat_le}
use Rattle.std.specs.List.{list_all}
use Rattle.std.specs.Io.KnownBytes.{Consumes, prepend_known}
use Rattle.std.specs.Option.{option_map}
use Rattle.std.proofs.Math.Seq.{drop-append_seam, take-append_seam}
use Rattle.std.proofs.lemmas.Bool.{cond-true}
use Rattle.std.proofs.lemmas.List.{drop-append-le, length-append, length-drop}
use Rattle.std.proofs.lemmas.Option.{none-some, same_Some}
use Rattle.metering_model.specs.Batch.{lacks}
use Rattle.metering_model.specs.BatchReading.{Lines, is_same, lines_in}
use Rattle.metering_model.specs.KeptText.{KeptAmong}
use Rattle.metering_model.specs.Schedule.{TextLines, lines_text}
use Rattle.metering_model.specs.Sheet.{Sheet, Issuer}
use Rattle.metering_model.specs.Transcript.{line}
use Rattle.metering_model.proofs.Splitting.{lines_give_back, lines_of_text}
use Rattle.input_sections.specs.Sections.{left, number_behind}
use Rattle.byte_text.proofs.PastLines.{lines_behind, lines_lack}
use Rattle.log_text.specs.LogText.{ReadLog, section_in}
use Rattle.log_text.proofs.IncrementLaws.{section_lacks_feed, section_read as said_read}
use Rattle.process_text.specs.declared.processes.Process.{Process}
use Rattle.process_player.specs.declared.heads.ProcessKind.{ProcessKind}
use Rattle.process_player.specs.Refusals.{log_there, preamble_lines, section_below, section_lines, stored_lines, with_issuer}
use Rattle.process_player.specs.Runs.{BeginsNone}
use Rattle.process_player.specs.Inner.Fronts.{IsPreambleShort}
use Rattle.process_player.specs.Starts.{Begins, HasLog, HasNone, IsStored, Preamble, preamble_in}
use Rattle.process_player.specs.Inner.Reading.{AreStoredShort, HasRead, FallsShort}
use Rattle.process_player.proofs.CommandTexts.{lines_with}
use Rattle.process_player.proofs.Fronts.{preamble_front, section_on}
use Rattle.process_player.proofs.Passing.{passes_more}
use Rattle.process_player.proofs.StoredLaws.{log_lines_of}

-- ---- the lines of a preamble stay where more stands behind them

abbrev IsWithin : ℕ → TextLines → Type 0
IsWithin n ls = (1 ≤ n) × (n ≤ length ls)

section_within : (word : List ℕ) (most : ℕ) (ls : TextLines) (n : ℕ) → section_lines word most ls ≡ Some n → IsWithin n ls
section_within word most [] n h = absurd (none-some n h)
section_within word most (l ∷ ls) n h = by (number_behind word most l) h
  where
    enough : (k : ℕ) (b : Bool) → nat_le k (length ls) ≡ b → cond b (Some (1 + k)) None ≡ Some n → IsWithin n (l ∷ ls)
    enough k true e h =
        let low = leb-true k (length ls) e in
        let same = same_Some (1 + k) n h in
        (omega (arith, same), omega (arith, same, low))
    enough k false e h = absurd (none-some n h)

    by : (o : Option ℕ) → section_below ls o ≡ Some n → IsWithin n (l ∷ ls)
    by None h = absurd (none-some n h)
    by (Some k) h = enough k (nat_le k (length ls)) refl h

-- how many lines its sheet and its issuer have
record HasSections (ls : TextLines) (n : ℕ) : Type 0 where
  pub sheet : ℕ
  pub issuer : ℕ
  pub is_sheet : section_lines (codes "sheet ") 200_000 (drop 2 ls) ≡ Some sheet
  pub is_issuer : section_lines (codes "issuer ") 100 (drop (2 + sheet) ls) ≡ Some issuer
  pub counted : 2 + sheet + issuer ≡ n

sections_of : (ls : TextLines) (n : ℕ) → preamble_lines ls ≡ Some n → HasSections ls n
sections_of ls n h = by (section_lines (codes "sheet ") 200_000 (drop 2 ls)) refl h
  where
    by_issuer : (s : ℕ) → section_lines (codes "sheet ") 200_000 (drop 2 ls) ≡ Some s
        → (o : Option ℕ) → section_lines (codes "issuer ") 100 (drop (2 + s) ls) ≡ o → option_map (λ m. 2 + s + m) o ≡ Some n → HasSections ls n
    by_issuer s is None there h = absurd (none-some n h)
    by_issuer s is (Some i) there h = record { sheet = s; issuer = i; is_sheet = is; is_issuer = there; counted = same_Some (2 + s + i) n h }

    by : (o : Option ℕ) → section_lines (codes "sheet ") 200_000 (drop 2 ls) ≡ o → with_issuer ls o ≡ Some n → HasSections ls n
    by None is h = absurd (none-some n h)
    by (Some s) is h = by_issuer s is (section_lines (codes "issuer ") 100 (drop (2 + s) ls)) refl h

module _ (ls : TextLines) (n : ℕ) (said : preamble_lines ls ≡ Some n) where
  abbrev parts : HasSections ls n
  parts = sections_of ls n said

  sheet_within : IsWithin parts.sheet (drop 2 ls)
  sheet_within = section_within (codes "sheet ") 200_000 (drop 2 ls) parts.sheet parts.is_sheet

  issuer_within : IsWithin parts.issuer (drop (2 + parts.sheet) ls)
  issuer_within = section_within (codes "issuer ") 100 (drop (2 + parts.sheet) ls) parts.issuer parts.is_issuer

  preamble_within : n ≤ length ls
  preamble_within =
      let some = issuer_within.0 in
      let low = issuer_within.1 in
      let counted = parts.counted in
      omega (arith, some, low, counted, length-drop (2 + parts.sheet) ls)

  preamble_on : (rs : TextLines) → preamble_lines (ls ++ rs) ≡ Some n
  preamble_on rs =
      let sheet = parts.sheet in
      let issuer = parts.issuer in
      let first : drop 2 (ls ++ rs) ≡ drop 2 ls ++ rs =
      drop-append-le 2 ls rs (let some = sheet_within.0 in let low = sheet_within.1 in omega (arith, some, low, length-drop 2 ls)) in
      let both : drop (2 + sheet) (ls ++ rs) ≡ drop (2 + sheet) ls ++ rs =
      drop-append-le (2 + sheet) ls rs (let some = issuer_within.0 in let low = issuer_within.1 in omega (arith, some, low, length-drop (2 + sheet) ls)) in
      let of_sheet : section_lines (codes "sheet ") 200_000 (drop 2 (ls ++ rs)) ≡ Some sheet =
      ap (section_lines (codes "sheet ") 200_000) first ∙ section_on (codes "sheet ") 200_000 (drop 2 ls) rs sheet parts.is_sheet in
      let of_issuer : section_lines (codes "issuer ") 100 (drop (2 + sheet) (ls ++ rs)) ≡ Some issuer =
      ap (section_lines (codes "issuer ") 100) both ∙ section_on (codes "issuer ") 100 (drop (2 + sheet) ls) rs issuer parts.is_issuer in
      ap (with_issuer (ls ++ rs)) of_sheet ∙ ap (option_map (λ m. 2 + sheet + m)) of_issuer ∙ ap Some parts.counted

-- ---- a preamble that is read to its last byte

-- it is whole lines, just those of a preamble
record IsWholePreamble (text : List ℕ) : Type 0 where
  pub lines : TextLines
  pub whole : list_all (lacks 10) lines ≡ true
  pub are_lines : text ≡ lines_text lines
  pub said : preamble_lines lines ≡ Some (length lines)

whole_preamble : (k : ProcessKind) (text : List ℕ) (p : Preamble) → preamble_in k text ≡ Ok p → left p.rest ≡ [] → IsWholePreamble text
whole_preamble k text p read none =
    let front = preamble_front k text p read in
    let ls = (lines_in text).lines in
    let nothing : lines_in (left p.rest) ≡ record { lines = []; rest = [] } = ap lines_in none ∙ lines_of_text [] refl in
    let behind : drop front.count ls ≡ [] = sym front.lines ∙ ap (λ (x : Lines). x.lines) nothing in
    let rest : (lines_in text).rest ≡ [] = sym front.piece ∙ ap (λ (x : Lines). x.rest) nothing in
    let within = preamble_within ls front.count front.said in
    let all : front.count ≡ length ls = omega (arith, within, ap length behind, length-drop front.count ls) in
    record {
      lines = ls;
      whole = lines_lack text;
      are_lines = sym (lines_give_back text) ∙ ap (λ t. lines_text ls ++ t) rest ∙ append-nil (lines_text ls);
      said = front.said ∙ ap Some all;
    }

module _ {text : List ℕ} (it : IsWholePreamble text) (more : List ℕ) where
  lines_on : (lines_in (text ++ more)).lines ≡ it.lines ++ (lines_in more).lines
  lines_on = ap (λ t. (lines_in (t ++ more)).lines) it.are_lines ∙ ap (λ (x : Lines). x.lines) (lines_behind it.lines more it.whole)

  preamble_there : preamble_lines (lines_in (text ++ more)).lines ≡ Some (length it.lines)
  preamble_there = ap preamble_lines lines_on ∙ preamble_on it.lines (length it.lines) it.said (lines_in more).lines

-- of two that one text begins with each is the other
same_preamble : {one two : List ℕ} → IsWholePreamble one → IsWholePreamble two → (x y : List ℕ) → one ++ x ≡ two ++ y → x ≡ y
same_preamble {one} {two} a b x y same =
    let size : length a.lines ≡ length b.lines =
    same_Some (length a.lines) (length b.lines) (sym (preamble_there a x) ∙ ap (λ t. preamble_lines (lines_in t).lines) same ∙ preamble_there b y) in
    let both : a.lines ++ (lines_in x).lines ≡ b.lines ++ (lines_in y).lines = sym (lines_on a x) ∙ ap (λ t. (lines_in t).lines) same ∙ lines_on b y in
    let lines : a.lines ≡ b.lines = sym (take-append_seam a.lines (lines_in x).lines) ∙ ap₂ take size both ∙ take-append_seam b.lines (lines_in y).lines in
    let is : one ≡ two = a.are_lines ∙ ap lines_text lines ∙ sym b.are_lines in
    sym (drop-append_seam one x) ∙ ap₂ drop (ap length is) same ∙ drop-append_seam two y

-- ---- what was stored is all there, whatever stands behind it

log_said : (next n : ℕ) (l : List ℕ) (ls : TextLines) (new : Bool) → is_same l (codes "new") ≡ new → section_in (codes "log ") 4_294_967_295 l ≡ Some n → n ≤ length ls
    → (m : ℕ) × (stored_lines next (l ∷ ls) ≡ Ok m)
log_said next n l ls true is said enough = (0, ap (λ b. cond b (Ok 0) (log_there next ls (section_in (codes "log ") 4_294_967_295 l))) is)
log_said next n l ls false is said enough = (
  n,
  ap (λ b. cond b (Ok 0) (log_there next ls (section_in (codes "log ") 4_294_967_295 l))) is
      ∙ ap (log_there next ls) said ∙ cond-true (nat_le n (length ls)) (Ok n) _ (le-leb n (length ls) enough),
)

stored_there : {own : ReadLog} {text : List ℕ} {kept : KeptAmong} → IsStored own text kept → (more : List ℕ) (next : ℕ)
    → (m : ℕ) × (stored_lines next (lines_in (text ++ more)).lines ≡ Ok m)
stored_there HasNone more next = (0, ap (stored_lines next) (lines_with (codes "new") more refl))
stored_there {own} (HasLog said log kept n says counted read) more next =
    let ls = (lines_in log).lines in
    let whole : lacks 10 said ≡ true =
    ap (lacks 10) (said_read (codes "log ") 4_294_967_295 said n (omega arith) says).0 ∙ section_lacks_feed (codes "log ") n refl in
    let below = (lines_in (log ++ more)).lines in
    let lines : (lines_in ((line said ++ log) ++ more)).lines ≡ said ∷ below =
    ap (λ t. (lines_in t).lines) (append_assoc (line said) log more) ∙ lines_with said (log ++ more) whole in
    let is : log ≡ lines_text ls = log_lines_of log (record { head = own.head; kept = kept }) read in
    let all : below ≡ ls ++ (lines_in more).lines =
    ap (λ t. (lines_in (t ++ more)).lines) is ∙ ap (λ (x : Lines). x.lines) (lines_behind ls more (lines_lack log)) in
    let enough : n ≤ length below = omega (arith, counted, ap length all, length-append ls (lines_in more).lines) in
    let there = log_said next n said below (is_same said (codes "new")) refl says enough in
    (there.0, ap (stored_lines next) lines ∙ there.1)

never_short : {own : ReadLog} {text : List ℕ} {kept : KeptAmong} → IsStored own text kept → (more rest : List ℕ) (next : ℕ) → AreStoredShort next rest → rest ≢ text ++ more
never_short it more rest next short is =
    let there = stored_there it more next in
    absurd (let both = sym short ∙ ap (λ t. stored_lines next (lines_in t).lines) is ∙ there.1 in cc)

-- ---- no process is begun

module _ {k : ProcessKind} {text : List ℕ} {p : Process} (it : Begins k text p) where
  begins_whole : IsWholePreamble it.first
  begins_whole = whole_preamble k it.first it.preamble it.is_read it.whole

  begins_first : (more : List ℕ) → text ++ more ≡ it.first ++ (it.stored ++ more)
  begins_first more = ap (λ t. t ++ more) it.joined ∙ append_assoc it.first it.stored more

-- what came behind what was ahead is all that came
all_consumed : (a : List ℕ) (l m : Option (List ℕ)) (came : List ℕ) → Consumes l m came → Consumes (prepend_known a l) m (a ++ came)
all_consumed a None m came it = tt
all_consumed a (Some xs) None came it = it
all_consumed a (Some xs) (Some ys) came it = ap (λ t. a ++ t) it ∙ sym (append_assoc a came ys)

pub no_preamble : (k : ProcessKind) {a b : List ℕ} {l m : Option (List ℕ)} → FallsShort IsPreambleShort a b l m → BeginsNone k (prepend_known a l) m
no_preamble k {a} {b} {l} {m} it = record {
  came = a ++ it.passes.came;
  consumed = all_consumed a l m it.passes.came it.passes.consumed;
  none = λ text more p begins is.
      let here : b ≡ begins.first ++ (begins.stored ++ more) = sym it.passes.joined ∙ is ∙ begins_first begins more in
      let whole = begins_whole begins in
      absurd (none-some (length whole.lines) (sym it.short ∙ ap (λ t. preamble_lines (lines_in t).lines) here ∙ preamble_there whole (begins.stored ++ more)));
}

pub no_stored : {k : ProcessKind} {own : ReadLog} {sheet : Sheet} {issuer : Issuer} {next : ℕ} {a b c : List ℕ} {l m n : Option (List ℕ)}
    → HasRead k own sheet issuer next a b l m → FallsShort (AreStoredShort next) b c m n → BeginsNone k (prepend_known a l) n
no_stored {k} {own} {sheet} {issuer} {next} {a} {c = c} {l = l} {n = n} it there =
    let all = passes_more it.passes there.passes in
    record {
      came = a ++ all.came;
      consumed = all_consumed a l n all.came all.consumed;
      none = λ text more p begins is.
          let whole = whole_preamble k it.text (record { own = own; sheet = sheet; issuer = issuer; rest = it.behind }) it.is_read it.whole in
          let stored : c ≡ begins.stored ++ more =
          same_preamble whole (begins_whole begins) c (begins.stored ++ more) (sym all.joined ∙ is ∙ begins_first begins more) in
          never_short begins.is_stored more c next there.short stored;
    }

-- where nothing was ahead
pub begins_none : {k : ProcessKind} {a : List ℕ} {m : Option (List ℕ)} (l : Option (List ℕ)) → a ≡ [] → BeginsNone k (prepend_known a l) m → BeginsNone k l m
begins_none None none it = it
begins_none {k} {m = m} (Some xs) none it = subst (λ t. BeginsNone k (Some (t ++ xs)) m) none it
