-- The steps of the reading, one after another.
use Rattle.std.proofs.Common.{◌≡◌, ◌≢◌, ◌≤◌, ℕ, Bool, true, false, List, length, drop, nat_le, Result, Ok, Err, IfOk, IfErr, IsOk, refl, sym, ap, ap₂, subst, ◌∙◌, codes}
use Rattle.std.proofs.lemmas.Result.{err_from_is_err_and}
use Rattle.metering_model.specs.FirstFailure.{◌>>=◌, holds_or}
use Rattle.metering_model.specs.Limits.{most_input_bytes}
use Rattle.metering_model.specs.Sheet.{Sheet, Issuer}
use Rattle.metering_model.specs.SheetRules.{IsSheet, IsIssuer}
use Rattle.sheet_text.specs.Samples.{sample_issuer}
use Rattle.input_sections.specs.declared.faults.ScheduleCode.TheVariants.{TooLong}
use Rattle.input_sections.specs.declared.faults.ScheduleFault.{ScheduleFault}
use Rattle.input_sections.specs.declared.faults.ScheduleFault.TheVariants.{Refused, OutOfMemory}
use Rattle.input_sections.specs.declared.rates.RateInput as code
use Rattle.input_sections.specs.RateInput as model
use Rattle.input_sections.specs.RateInput.{default_sheet, if_begun, rate_input_in}
use Rattle.input_sections.specs.Sections.{Unread, left, whole_of, sheet_section, issuer_section}
use Rattle.input_sections.proofs.rates.rate_input.Goals as goal

-- ---- what a text gives, step by step

abbrev sheet_in : Unread → Result (Sheet × Unread) ScheduleFault
sheet_in = if_begun (codes "sheet ") sheet_section default_sheet

abbrev issuer_in : Unread → Result (Issuer × Unread) ScheduleFault
issuer_in = if_begun (codes "issuer ") issuer_section sample_issuer

abbrev all_of : Sheet → Issuer × Unread → Result model.RateInput ScheduleFault
all_of sheet issuer = Ok (record { sheet = sheet; issuer = issuer.0; batch = left issuer.1 })

abbrev behind_sheet : Sheet × Unread → Result model.RateInput ScheduleFault
behind_sheet sheet = issuer_in sheet.1 >>= all_of sheet.0

abbrev behind_whole : Unread → Result model.RateInput ScheduleFault
behind_whole u = sheet_in u >>= behind_sheet

in_steps : (text : List ℕ) → rate_input_in text ≡ (whole_of text >>= behind_whole)
unfolding rate_input_in
in_steps text = refl

module _ (text : List ℕ) where
  whole_fails : {fault : ScheduleFault} → whole_of text ≡ Err fault → rate_input_in text ≡ Err fault
  whole_fails whole = in_steps text ∙ ap (λ w. w >>= behind_whole) whole

  -- all of a text is left at first
  text_of : {u : Unread} → whole_of text ≡ Ok u → u.text ≡ text
  text_of {u} whole = by (nat_le (length text) most_input_bytes) whole
    where
      by : (b : Bool) → (holds_or b (Refused TooLong 1) >>= λ _. Ok (record { text = text; from = 0; line = 1 })) ≡ Ok u → u.text ≡ text
      by true is = let same : ◌≡◌ {A = Unread} (record { text = text; from = 0; line = 1 }) u = cc in sym (ap (λ (v : Unread). v.text) same)
      by false is = absurd (cc)

  module _ {u : Unread} (whole : whole_of text ≡ Ok u) where
    sheet_fails : {fault : ScheduleFault} → sheet_in u ≡ Err fault → rate_input_in text ≡ Err fault
    sheet_fails sheet = in_steps text ∙ ap (λ w. w >>= behind_whole) whole ∙ ap (λ s. s >>= behind_sheet) sheet

    is_whole : IsOk (whole_of text)
    is_whole = subst (λ (w : Result Unread ScheduleFault). IsOk w) (sym whole) refl

    module _ {sheet : Sheet} {v : Unread} (found : sheet_in u ≡ Ok (sheet, v)) (same : v.text ≡ u.text) where
      behind : rate_input_in text ≡ behind_sheet (sheet, v)
      behind = in_steps text ∙ ap (λ w. w >>= behind_whole) whole ∙ ap (λ s. s >>= behind_sheet) found

      taken_behind : (r : Result code.RateInput ScheduleFault) → IfOk r (λ x. x.sheet ≡ sheet)
          → IfOk r (λ x. (line : ℕ) × (issuer_in v ≡ Ok (x.issuer, record { text = v.text; from = x.batch_from; line = line })))
          → IfOk r (λ x. rate_input_in text ≡ Ok (record { sheet = x.sheet; issuer = x.issuer; batch = drop x.batch_from text }))
      taken_behind (Err fault) is it = tt
      taken_behind (Ok x) is it =
          behind ∙ ap (λ i. i >>= all_of sheet) it.1
          ∙ ap₂ (λ (s : Sheet) (t : List ℕ). Ok (record { sheet = s; issuer = x.issuer; batch = drop x.batch_from t })) (sym is) (same ∙ text_of whole)

      within_behind : (r : Result code.RateInput ScheduleFault) → IfOk r (λ x. x.batch_from ≤ length v.text) → IfOk r (λ x. x.batch_from ≤ length text)
      within_behind (Err fault) it = tt
      within_behind (Ok x) it = subst (λ (t : List ℕ). x.batch_from ≤ length t) (same ∙ text_of whole) it

      refused_behind : (r : Result code.RateInput ScheduleFault) → IfErr r (λ fault. fault ≢ OutOfMemory → issuer_in v ≡ Err fault)
          → IfErr r (λ fault. fault ≢ OutOfMemory → rate_input_in text ≡ Err fault)
      refused_behind (Ok x) it = tt
      refused_behind (Err fault) it = λ other. behind ∙ ap (λ i. i >>= all_of sheet) (it other)

      want_behind : (r : Result code.RateInput ScheduleFault) → IfErr r (λ fault. fault ≡ OutOfMemory → IsOk (whole_of text))
      want_behind (Ok x) = tt
      want_behind (Err fault) = λ _. is_whole

-- by the rules
rules_of : {sheet : Sheet} (r : Result code.RateInput ScheduleFault) → IsSheet sheet → IfOk r (λ x. x.sheet ≡ sheet) → IfOk r (λ x. IsIssuer x.issuer) → IfOk r (λ x. IsSheet x.sheet × IsIssuer x.issuer)
rules_of (Err fault) sheet is issuer = tt
rules_of (Ok x) sheet is issuer = (subst IsSheet (sym is) sheet, issuer)

-- ---- a fault that is passed on

passed : {A : Type 0} {r : Result A ScheduleFault} {e : ScheduleFault} → (y : ScheduleFault) × (r ≡ Err y) × (y ≡ e) → r ≡ Err e
passed p = p.1 ∙ ap Err p.2

-- ---- the text is too long

pub returns-in_err-unread-clause-taken : goal.returns-in_err-unread-clause-taken
returns-in_err-unread-clause-taken c = rw (passed (err_from_is_err_and c.from_residual.result c.from_residual.ensures.1)) tt

pub returns-in_err-unread-clause-within : goal.returns-in_err-unread-clause-within
returns-in_err-unread-clause-within c = rw (passed (err_from_is_err_and c.from_residual.result c.from_residual.ensures.1)) tt

pub returns-in_err-unread-clause-refused : goal.returns-in_err-unread-clause-refused
returns-in_err-unread-clause-refused c =
    rw (passed (err_from_is_err_and c.from_residual.result c.from_residual.ensures.1)) (λ _. whole_fails c.args.text.now c.in_err-unread.ensures.whole)

pub returns-in_err-unread-clause-want : goal.returns-in_err-unread-clause-want
returns-in_err-unread-clause-want c =
    rw (passed (err_from_is_err_and c.from_residual.result c.from_residual.ensures.1)) (λ is. absurd (c.in_err-unread.ensures.want is))

pub returns-in_err-unread-clause-rules : goal.returns-in_err-unread-clause-rules
returns-in_err-unread-clause-rules c = rw (passed (err_from_is_err_and c.from_residual.result c.from_residual.ensures.1)) tt

-- ---- or has no sheet where one begins

pub returns-in_err-sheet-clause-taken : goal.returns-in_err-sheet-clause-taken
returns-in_err-sheet-clause-taken c = rw (passed (err_from_is_err_and c.from_residual-in_err-sheet.result c.from_residual-in_err-sheet.ensures.1)) tt

pub returns-in_err-sheet-clause-within : goal.returns-in_err-sheet-clause-within
returns-in_err-sheet-clause-within c = rw (passed (err_from_is_err_and c.from_residual-in_err-sheet.result c.from_residual-in_err-sheet.ensures.1)) tt

pub returns-in_err-sheet-clause-refused : goal.returns-in_err-sheet-clause-refused
returns-in_err-sheet-clause-refused c =
    rw (passed (err_from_is_err_and c.from_residual-in_err-sheet.result c.from_residual-in_err-sheet.ensures.1))
    (λ other. sheet_fails c.args.text.now c.in_ok-unread.ensures.whole (c.in_err-sheet.ensures.refused other))

pub returns-in_err-sheet-clause-want : goal.returns-in_err-sheet-clause-want
returns-in_err-sheet-clause-want c =
    rw (passed (err_from_is_err_and c.from_residual-in_err-sheet.result c.from_residual-in_err-sheet.ensures.1))
    (λ _. is_whole c.args.text.now c.in_ok-unread.ensures.whole)

pub returns-in_err-sheet-clause-rules : goal.returns-in_err-sheet-clause-rules
returns-in_err-sheet-clause-rules c = rw (passed (err_from_is_err_and c.from_residual-in_err-sheet.result c.from_residual-in_err-sheet.ensures.1)) tt

-- ---- what follows it

pub returns-clause-taken : goal.returns-clause-taken
returns-clause-taken c =
    taken_behind c.args.text.now c.in_ok-unread.ensures.whole c.in_ok-sheet.ensures.taken c.in_ok-sheet.ensures.text c.input_behind.result
    c.input_behind.ensures.sheet c.input_behind.ensures.taken

pub returns-clause-within : goal.returns-clause-within
returns-clause-within c =
    within_behind c.args.text.now c.in_ok-unread.ensures.whole c.in_ok-sheet.ensures.taken c.in_ok-sheet.ensures.text c.input_behind.result c.input_behind.ensures.within

pub returns-clause-refused : goal.returns-clause-refused
returns-clause-refused c =
    refused_behind c.args.text.now c.in_ok-unread.ensures.whole c.in_ok-sheet.ensures.taken c.in_ok-sheet.ensures.text c.input_behind.result c.input_behind.ensures.refused

pub returns-clause-want : goal.returns-clause-want
returns-clause-want c =
    want_behind c.args.text.now c.in_ok-unread.ensures.whole c.in_ok-sheet.ensures.taken c.in_ok-sheet.ensures.text c.input_behind.result

pub returns-clause-rules : goal.returns-clause-rules
returns-clause-rules c = rules_of c.input_behind.result c.in_ok-sheet.ensures.rules c.input_behind.ensures.sheet c.input_behind.ensures.rules
