-- The definitions by which a section, and what is to be rated, are read never tell of want of memory: so where they are an error, it
-- is a fault with its line.
use Rattle.std.proofs.Common.{ℕ, Bool, true, false, cond, List, [], ◌∷◌, Option, Some, None, Result, Ok, Err, ok_or, codes}
use Rattle.std.specs.Prelude.{nat_le, length}
use Rattle.std.specs.Str.{is_utf8}
use Rattle.metering_model.specs.FirstFailure.{◌>>=◌, holds_or}
use Rattle.metering_model.specs.Sheet as model
use Rattle.sheet_text.specs.Samples.{sample_issuer}
use Rattle.price_sheet.specs.SheetReading.{sheet_of_text}
use Rattle.sheet_text.specs.IssuerReading.{issuer_of_text}
use Rattle.input_sections.specs.declared.faults.ScheduleCode.{ScheduleCode}
use Rattle.input_sections.specs.declared.faults.ScheduleCode.TheVariants.{Sheet, Issuer, Lines, TooLong}
use Rattle.input_sections.specs.declared.faults.ScheduleFault.{ScheduleFault}
use Rattle.input_sections.specs.declared.faults.ScheduleFault.TheVariants.{Refused, OutOfMemory}
use Rattle.input_sections.specs.RateInput.{default_sheet, if_begun, rate_input_in}
use Rattle.input_sections.specs.Sections.{Section, Unread, begins_with, first_line, first_of, issuer_section, left, lines_left, number_behind, read_as, section_in, sheet_section, told, whole_of}

abbrev pub NeverWants : {A : Type 0} → Result A ScheduleFault → Type 0
NeverWants (Ok x) = Unit {0}
NeverWants (Err (Refused code n)) = Unit {0}
NeverWants (Err OutOfMemory) = ⊥

pub in_turn : {A B : Type 0} (r : Result A ScheduleFault) (f : A → Result B ScheduleFault) → NeverWants r → ((x : A) → NeverWants (f x)) → NeverWants (r >>= f)
in_turn (Ok x) f first then = then x
in_turn (Err (Refused code n)) f first then = tt
in_turn (Err OutOfMemory) f first then = absurd first

pub by_test : (b : Bool) (code : ScheduleCode) (n : ℕ) → NeverWants (holds_or b (Refused code n))
by_test true code n = tt
by_test false code n = tt

pub if_there : {A : Type 0} (o : Option A) (code : ScheduleCode) (n : ℕ) → NeverWants (ok_or o (Refused code n))
if_there (Some x) code n = tt
if_there None code n = tt

pub either : {A : Type 0} (b : Bool) (r s : Result A ScheduleFault) → NeverWants r → NeverWants s → NeverWants (cond b r s)
either true r s one other = one
either false r s one other = other

pub a_line : (code : ScheduleCode) (u : Unread) → NeverWants (first_line code u)
a_line code u = of_lines (lines_left u)
  where
    of_lines : (ls : List (List ℕ)) → NeverWants (first_of code u ls)
    of_lines [] = tt
    of_lines (l ∷ ls) = tt

pub a_section : (code : ScheduleCode) (word : List ℕ) (most : ℕ) (u : Unread) → NeverWants (section_in code word most u)
unfolding section_in
a_section code word most u =
    in_turn (first_line code u) _ (a_line code u) (λ opening.
    in_turn (ok_or (number_behind word most opening.0) (Refused code u.line)) _ (if_there (number_behind word most opening.0) code u.line) (λ n.
    in_turn (holds_or (nat_le n (length (lines_left opening.1))) (Refused Lines u.line)) _ (by_test (nat_le n (length (lines_left opening.1))) Lines u.line) (λ _. tt)))

a_reader : {A E : Type 0} (reader : List ℕ → Result A E) (code : ScheduleCode) (n : ℕ) (text : List ℕ) → NeverWants (read_as reader (Refused code n) text)
unfolding read_as
a_reader reader code n text = in_turn (holds_or (is_utf8 text) (Refused code n)) _ (by_test (is_utf8 text) code n) (λ _. by_answer (reader text))
  where
    by_answer : {A E : Type 0} → (r : Result A E) → NeverWants (told (Refused code n) r)
    by_answer (Ok x) = tt
    by_answer (Err e) = tt

pub a_sheet : (u : Unread) → NeverWants (sheet_section u)
unfolding sheet_section
a_sheet u =
    in_turn (section_in Sheet (codes "sheet ") 200_000 u) _ (a_section Sheet (codes "sheet ") 200_000 u) (λ (s : Section).
    in_turn (read_as sheet_of_text (Refused Sheet u.line) s.text) _ (a_reader sheet_of_text Sheet u.line s.text) (λ _. tt))

pub an_issuer : (u : Unread) → NeverWants (issuer_section u)
unfolding issuer_section
an_issuer u =
    in_turn (section_in Issuer (codes "issuer ") 100 u) _ (a_section Issuer (codes "issuer ") 100 u) (λ (s : Section).
    in_turn (read_as issuer_of_text (Refused Issuer u.line) s.text) _ (a_reader issuer_of_text Issuer u.line s.text) (λ _. tt))

pub a_whole : (text : List ℕ) → NeverWants (whole_of text)
a_whole text = in_turn (holds_or (nat_le (length text) 16_777_216) (Refused TooLong 1)) _ (by_test (nat_le (length text) 16_777_216) TooLong 1) (λ _. tt)

pub a_rating : (text : List ℕ) → NeverWants (rate_input_in text)
unfolding rate_input_in
a_rating text =
    in_turn (whole_of text) _ (a_whole text) (λ (u : Unread).
    in_turn (if_begun (codes "sheet ") sheet_section default_sheet u) _ (either (begins_with (codes "sheet ") (left u)) (sheet_section u) (Ok (default_sheet, u)) (a_sheet u) tt) (λ (sheet : model.Sheet × Unread).
    in_turn (if_begun (codes "issuer ") issuer_section sample_issuer sheet.1) _ (either (begins_with (codes "issuer ") (left sheet.1)) (issuer_section sheet.1) (Ok (sample_issuer, sheet.1)) (an_issuer sheet.1) tt) (λ _. tt)))
