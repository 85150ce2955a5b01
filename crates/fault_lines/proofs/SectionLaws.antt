-- The section on a line of an input, and what its reader says of it.
use Rattle.std.proofs.Common.{◌≡◌, ℕ, ◌-◌, ◌<◌, ◌≤◌, Bool, true, false, cond, List, length, Option, Some, None, Result, Ok, Err, codes, refl, sym, ap, subst, arith, le-leb}
use Rattle.std.specs.Prelude.{MatchOption, nat_le}
use Rattle.std.specs.Str.{IsUtf8, is_utf8}
use Rattle.std.proofs.lemmas.Str.{IsUtf8-from_is_utf8, is_utf8-from_IsUtf8}
use Rattle.std.proofs.lemmas.Bool.Decides.{nat_tests}
use Rattle.metering_model.specs.FirstFailure.{◌>>=◌, holds_or}
use Rattle.metering_model.proofs.StepLaws.{ok_step_from, test_step_from}
use Rattle.input_sections.specs.declared.faults.ScheduleCode.{ScheduleCode}
use Rattle.input_sections.specs.declared.faults.ScheduleFault.{ScheduleFault}
use Rattle.input_sections.specs.declared.faults.ScheduleFault.TheVariants as section
use Rattle.input_sections.specs.Sections.{Section, Unread, lines_left, section_in, section_of, whole_of}
use Rattle.fault_lines.specs.Told.{from_line, said_by, said_of_text, section_on, text_of}

too_few : (m n : ℕ) → n < m → nat_le m n ≡ false
too_few m n below = grind (arith, nat_tests)

module _ (code : ScheduleCode) (n : ℕ) (text : List ℕ) where
  pub line_there : (u : Unread) → whole_of text ≡ Ok u → n - 1 ≤ length (lines_left u) → from_line code n text ≡ Ok (section_of (n - 1) u).rest
  unfolding from_line
  line_there u is enough = ok_step_from (whole_of text) _ u _ is (test_step_from (nat_le (n - 1) (length (lines_left u))) _ _ _ (le-leb _ _ enough) refl)

  pub line_at : (u v : Unread) → whole_of text ≡ Ok u → n - 1 ≤ length (lines_left u) → v ≡ (section_of (n - 1) u).rest → from_line code n text ≡ Ok v
  line_at u v is enough rest = subst (λ w. from_line code n text ≡ Ok w) (sym rest) (line_there u is enough)

  pub no_line : (u : Unread) → whole_of text ≡ Ok u → length (lines_left u) < n - 1 → from_line code n text ≡ Err (section.Refused code n)
  unfolding from_line
  no_line u is few =
      ok_step_from (whole_of text) _ u _ is (ap (λ b. holds_or b (section.Refused code n) >>= λ _. Ok (section_of (n - 1) u).rest) (too_few (n - 1) (length (lines_left u)) few))

  pub no_whole : (fault : ScheduleFault) → whole_of text ≡ Err fault → from_line code n text ≡ Err fault
  unfolding from_line
  no_whole fault is = ap (λ r. r >>= λ (u : Unread). holds_or (nat_le (n - 1) (length (lines_left u))) (section.Refused code n) >>= λ _. Ok (section_of (n - 1) u).rest) is

  -- what is left from there on, as it is looked for
  pub line_found : (u : Unread) (r : Option Unread) → whole_of text ≡ Ok u
      → MatchOption r (length (lines_left u) < n - 1) (λ v. (n - 1 ≤ length (lines_left u)) × (v ≡ (section_of (n - 1) u).rest))
      → MatchOption r ((fault : ScheduleFault) × (from_line code n text ≡ Err fault)) (λ v. from_line code n text ≡ Ok v)
  line_found u (Some v) is found = line_at u v is found.0 found.1
  line_found u None is few = (section.Refused code n, no_line u is few)

  module _ (word : List ℕ) (most : ℕ) where
    pub section_there : (v : Unread) (s : Section) → from_line code n text ≡ Ok v → section_in code word most v ≡ Ok s → section_on code word most n text ≡ Some s.text
    unfolding section_on
    section_there v s at is = ap text_of (ok_step_from (from_line code n text) _ v _ at is)

    pub no_section : (v : Unread) (fault : ScheduleFault) → from_line code n text ≡ Ok v → section_in code word most v ≡ Err fault → section_on code word most n text ≡ None
    unfolding section_on
    no_section v fault at is = ap text_of (ok_step_from (from_line code n text) _ v _ at is)

    pub nowhere : (fault : ScheduleFault) → from_line code n text ≡ Err fault → section_on code word most n text ≡ None
    unfolding section_on
    nowhere fault at = ap (λ r. text_of (r >>= λ (u : Unread). section_in code word most u)) at

pub said_of_utf8 : {A E : Type 0} (words : E → List ℕ) (reader : List ℕ → Result A E) (text : List ℕ) → IsUtf8 text → said_of_text words reader text ≡ said_by words (reader text)
unfolding said_of_text
said_of_utf8 words reader text utf8 = ap (λ b. cond b (said_by words (reader text)) (codes " not UTF-8")) (is_utf8-from_IsUtf8 text utf8)

pub said_of_other : {A E : Type 0} (words : E → List ℕ) (reader : List ℕ → Result A E) (text : List ℕ) → ¬ IsUtf8 text → said_of_text words reader text ≡ codes " not UTF-8"
unfolding said_of_text
said_of_other words reader text other = by_test (is_utf8 text) refl
  where
    by_test : (b : Bool) → is_utf8 text ≡ b → cond b (said_by words (reader text)) (codes " not UTF-8") ≡ codes " not UTF-8"
    by_test true e = absurd (other (IsUtf8-from_is_utf8 text e))
    by_test false e = refl
