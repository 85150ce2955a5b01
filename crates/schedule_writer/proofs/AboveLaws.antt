-- A sheet is what its lines are read as, wherever they stand.
use Rattle.std.proofs.Common.{◌≡◌, ℕ, List, Bool, true, false, cond, Result, Ok, Err, refl, sym, ap, ◌∙◌, codes}
use Rattle.std.specs.Str.{is_utf8}
use Rattle.metering_model.specs.FirstFailure.{◌>>=◌, holds_or}
use Rattle.metering_model.specs.Limits.{most_sheet_lines}
use Rattle.metering_model.specs.Sheet.{Sheet, Issuer}
use Rattle.metering_model.proofs.StepLaws.{ok_same, ok_step_from, step_ok}
use Rattle.sheet_text.specs.Samples.{sample_issuer}
use Rattle.price_sheet.specs.SheetReading.{sheet_of_text}
use Rattle.input_sections.specs.RateInput.{RateInput, default_sheet, if_begun, rate_input_in}
use Rattle.input_sections.specs.Sections.{Section, Unread, begins_with, issuer_section, left, read_as, section_in, sheet_section, told, whole_of}
use Rattle.input_sections.specs.declared.faults.ScheduleCode.TheVariants as code
use Rattle.input_sections.specs.declared.faults.ScheduleFault.{ScheduleFault}
use Rattle.input_sections.specs.declared.faults.ScheduleFault.TheVariants as fault
use Rattle.schedule_reader.specs.Schedules.{group_in, preamble_in}
use Rattle.schedule_writer.specs.Inner.Walks.{HasSheet}

-- ---- the same lines

-- what a text is read as does not depend on where its fault would be told
told_so : {A E : Type 0} (f g : ScheduleFault) (r : Result A E) (x : A) → told f r ≡ Ok x → told g r ≡ Ok x
told_so f g (Ok y) x is = is
told_so f g (Err e) x is = absurd (cc)

read_so : {A E : Type 0} (read : List ℕ → Result A E) (f g : ScheduleFault) (text : List ℕ) (x : A) → read_as read f text ≡ Ok x → read_as read g text ≡ Ok x
unfolding read_as
read_so read f g text x is = by_form (is_utf8 text) is
  where
    by_form : (b : Bool) → (holds_or b f >>= λ _. told f (read text)) ≡ Ok x → (holds_or b g >>= λ _. told g (read text)) ≡ Ok x
    by_form true so = told_so f g (read text) x so
    by_form false so = absurd (cc)

pub same_sheet : (u v behind : Unread) (s t : Section) (sheet : Sheet) → section_in code.Sheet (codes "sheet ") most_sheet_lines u ≡ Ok s
    → section_in code.Sheet (codes "sheet ") most_sheet_lines v ≡ Ok t → s.text ≡ t.text → sheet_section v ≡ Ok (sheet, behind) → sheet_section u ≡ Ok (sheet, s.rest)
unfolding sheet_section
same_sheet u v behind s t sheet here there same is =
    let section = step_ok (section_in code.Sheet (codes "sheet ") most_sheet_lines v) _ (sheet, behind) is in
    let read = step_ok (read_as sheet_of_text (fault.Refused code.Sheet v.line) section.0.text) _ (sheet, behind) section.2 in
    let text : section.0.text ≡ s.text = ap (λ (x : Section). x.text) (ok_same section.0 t (sym section.1 ∙ there)) ∙ sym same in
    let sheets : read.0 ≡ sheet = ap (λ (x : Sheet × Unread). x.0) (ok_same _ _ read.2) in
    let here_too : read_as sheet_of_text (fault.Refused code.Sheet u.line) s.text ≡ Ok sheet
    = read_so sheet_of_text (fault.Refused code.Sheet v.line) (fault.Refused code.Sheet u.line) s.text sheet
    (ap (read_as sheet_of_text (fault.Refused code.Sheet v.line)) (sym text) ∙ (read.1 ∙ ap Ok sheets)) in
    ok_step_from (section_in code.Sheet (codes "sheet ") most_sheet_lines u) _ s _ here
    (ok_step_from (read_as sheet_of_text (fault.Refused code.Sheet u.line) s.text) _ sheet _ here_too refl)

-- ---- the sheet of an input

abbrev sheet_in : Unread → Result (Sheet × Unread) ScheduleFault
sheet_in = if_begun (codes "sheet ") sheet_section default_sheet

given_sheet : (input : List ℕ) (u : Unread) (sheet : Sheet) → HasSheet input sheet → whole_of input ≡ Ok u → (rest : Unread) × (sheet_in u ≡ Ok (sheet, rest))
unfolding rate_input_in
given_sheet input u sheet is at =
    let given = is.given in
    let whole = step_ok (whole_of input) _ given is.is_given in
    let read = step_ok (sheet_in whole.0) _ given whole.2 in
    let issuer = step_ok (if_begun (codes "issuer ") issuer_section sample_issuer read.0.1) _ given read.2 in
    let sheets : read.0.0 ≡ sheet = ap (λ (g : RateInput). g.sheet) (ok_same _ given issuer.2) ∙ is.by_sheet in
    (read.0.1, ap sheet_in (ok_same u whole.0 (sym at ∙ whole.1)) ∙ (read.1 ∙ ap (λ (s : Sheet). Ok (s, read.0.1)) sheets))

-- where the input begins with one
pub begun_sheet : (input : List ℕ) (u : Unread) (sheet : Sheet) → HasSheet input sheet → whole_of input ≡ Ok u → begins_with (codes "sheet ") (left u) ≡ true
    → (rest : Unread) × (sheet_section u ≡ Ok (sheet, rest))
begun_sheet input u sheet is at begins =
    let given = given_sheet input u sheet is at in
    (given.0, ap (λ b. cond b (sheet_section u) (Ok (default_sheet, u))) (sym begins) ∙ given.1)

-- ---- all that stands above the events

pub above_is : (text : List ℕ) (voters observers agents : ℕ) (u v rest : Unread) (sheet : Sheet) (issuer : Issuer) → group_in text ≡ Ok (voters, observers, agents, u)
    → sheet_section u ≡ Ok (sheet, v) → issuer_section v ≡ Ok (issuer, rest)
    → preamble_in text ≡ Ok (record { voters = voters; observers = observers; agents = agents; sheet = sheet; issuer = issuer; rest = rest })
unfolding preamble_in
above_is text voters observers agents u v rest sheet issuer group is_sheet is_issuer =
    ok_step_from (group_in text) _ (voters, observers, agents, u) _ group
    (ok_step_from (sheet_section u) _ (sheet, v) _ is_sheet (ok_step_from (issuer_section v) _ (issuer, rest) _ is_issuer refl))
