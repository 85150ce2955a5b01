-- What is said of two sheets, and of the input that they stand in.
use Rattle.std.proofs.Common.{◌≡◌, ◌↔◌, ℕ, ◌<◌, List, [], ◌∷◌, ◌++◌, length, Option, Some, None, Result, Ok, Err, ℤ, refl, sym, ap, subst, ◌∙◌, arith, eq-eqb, eqb-true}
use Rattle.std.specs.Prelude.{◌==◌, IsTrue, IfSome}
use Rattle.std.proofs.lemmas.List.{append-nil, length-append}
use Rattle.metering_model.specs.FirstFailure.{◌>>=◌}
use Rattle.metering_model.specs.Sheet.{Sheet}
use Rattle.metering_model.specs.SheetRules.{IsSheet}
use Rattle.metering_model.specs.Transcript.{line}
use Rattle.metering_model.proofs.StepLaws.{ok_step_from}
use Rattle.input_sections.specs.declared.faults.ScheduleCode.TheVariants.{TooLong}
use Rattle.input_sections.specs.declared.faults.ScheduleFault.{ScheduleFault}
use Rattle.input_sections.specs.declared.faults.ScheduleFault.TheVariants.{Refused}
use Rattle.input_sections.specs.Sections.{Unread, sheet_section, whole_of}
use Rattle.sheet_changes.specs.Changes.{Likeness, IsLikeness, IsLikenessText, SaysChanges, StaysBefore, region_lines, two_sheets_in}
use Rattle.sheet_changes.specs.Inner.Compared.{StaysBy, last_sheet, nothing_behind}
use Rattle.sheet_changes.specs.Inner.SaidLines.{too_long}
use Rattle.sheet_changes.specs.Regions.{unlike_regions}
use Rattle.sheet_changes.proofs.LikenessLaws.{goes_on_by}
use Rattle.sheet_changes.proofs.RegionLaws.{are_unlike, none_listed}

-- ---- the lines

no_line : (ids : List (List ℕ)) → length (region_lines ids) ≡ 0 → ids ≡ []
no_line [] e = refl
no_line (x ∷ xs) e = absurd (omega (arith, e))

-- as long as before, exactly if no line was put behind
as_long : (text : List ℕ) (ids : List (List ℕ)) → IsTrue (length (text ++ region_lines ids) == length text) ↔ (ids ≡ [])
as_long text ids = (
  λ same. no_line ids (omega (arith, eqb-true (length (text ++ region_lines ids)) (length text) same, length-append text (region_lines ids))),
  λ none. eq-eqb (length (text ++ region_lines ids)) (length text) (ap (λ more. length (text ++ region_lines more)) none ∙ ap length (append-nil text)),
)

module _ (old new : Sheet) (old_ok : IsSheet old) (new_ok : IsSheet new) (l : Likeness) (is_so : IsLikeness old new l) where
  pub says : (empty words first text : List ℕ) → empty ≡ [] → IsLikenessText l words → first ≡ empty ++ line words → text ≡ first ++ region_lines (unlike_regions old new) → SaysChanges old new text
  says empty words first text none is_text is_first is = record {
    likeness = l;
    is_so = is_so;
    first = words;
    is_first = is_text;
    regions = unlike_regions old new;
    are_unlike = are_unlike old new old_ok new_ok;
    in_order = refl;
    joined = is ∙ ap (λ t. t ++ region_lines (unlike_regions old new)) (is_first ∙ ap (λ t. t ++ line words) none);
  }

  pub stays : (before : Option ℤ) (first text : List ℕ) → text ≡ first ++ region_lines (unlike_regions old new) → StaysBy before l (length text == length first) ↔ StaysBefore before old new
  stays None first text is = (λ _. tt, λ _. tt)
  stays (Some day) first text is =
      let regions = none_listed old new (unlike_regions old new) (are_unlike old new old_ok new_ok) in
      let lines = as_long first (unlike_regions old new) in
      let days = goes_on_by old new l day is_so in
      let back = sym (ap (λ t. length t == length first) is) in (
        λ by. (days.0 by.1, regions.0 (lines.0 (subst IsTrue (sym back) by.0))),
        λ stays. (subst IsTrue back (lines.1 (regions.1 stays.1)), days.1 stays.0),
      )

-- ---- the input

abbrev pub both : Sheet → Sheet → Result (Sheet × Sheet) ScheduleFault
both old new = Ok (old, new)

-- a sheet, beside one that comes of two steps
beside : (old new : Sheet) (r : Result (Unit {0}) ScheduleFault) → (r >>= λ (_ : Unit {0}). both old new) ≡ ((r >>= λ (_ : Unit {0}). Ok new) >>= both old)
beside old new (Ok none) = refl
beside old new (Err fault) = refl

with_last : (old : Sheet) (r : Result (Sheet × Unread) ScheduleFault)
    → (r >>= λ new. nothing_behind new.1 >>= λ (_ : Unit {0}). both old new.0) ≡ ((r >>= λ new. nothing_behind new.1 >>= λ (_ : Unit {0}). Ok new.0) >>= both old)
with_last old (Ok new) = beside old new.0 (nothing_behind new.1)
with_last old (Err fault) = refl

-- the two sheets of a text are the first, and the last behind it
pub two_of : (text : List ℕ) (u v : Unread) (old : Sheet) (r : Result Sheet ScheduleFault) → whole_of text ≡ Ok u → sheet_section u ≡ Ok (old, v) → last_sheet v ≡ r → two_sheets_in text ≡ (r >>= both old)
unfolding two_sheets_in
two_of text u v old r whole first last =
    ok_step_from (whole_of text) _ u _ whole
    (ok_step_from (sheet_section u) _ (old, v) _ first
    (with_last old (sheet_section v) ∙ ap (λ t. t >>= both old) last))

pub longer_input : (known : Option (List ℕ)) (fault : ScheduleFault) → IfSome known (λ input. 16_777_216 < length input) → fault ≡ Refused TooLong 1 → IfSome known (λ input. two_sheets_in input ≡ Err fault)
longer_input None fault longer is = tt
longer_input (Some text) fault longer is = too_long text fault longer is
