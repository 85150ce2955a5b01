use Rattle.std.proofs.Common.{◌≡◌, ◌∙◌, ℕ, List, Option, Some, Result, ap, subst, sym}
use Rattle.program_input.specs.declared.faults.PlayFault.{PlayFault}
use Rattle.input_check.specs.Inputs.{Checks}
use Rattle.command_line.specs.Runs.{IsChecked}
use Rattle.command_line.specs.declared.commands.Kind.{Kind}
use Rattle.command_line.proofs.runs.say.Goals as goal

-- checked as of the kind that is asked for
module _ {W : Type 0} {answer : Result ℕ PlayFault} {writer writer' : W} {left left' old new : Option (List ℕ)} {reads reads' writes writes' : ℕ} where
  as_kind : (k l : Option Kind) → k ≡ l → Checks (IsChecked k) answer writer writer' left left' old new reads reads' writes writes' → Checks (IsChecked l) answer writer writer' left left' old new reads reads' writes writes'
  as_kind k l same it = subst (λ (x : Option Kind). Checks (IsChecked x) answer writer writer' left left' old new reads reads' writes writes') same it

pub returns-in-None : goal.returns-in-None
returns-in-None g c = as_kind _ _ (sym c.in-None.is) c.check_text.ensures

pub returns-in-Rate : goal.returns-in-Rate
returns-in-Rate g c = as_kind _ _ (sym (c.in-Some.is ∙ ap Some c.in-Rate.is)) c.check_text_as.ensures

pub returns-in-Play : goal.returns-in-Play
returns-in-Play g c = as_kind _ _ (sym (c.in-Some.is ∙ ap Some c.in-Play.is)) c.check_text_as-in-Play.ensures

pub returns-in-Schedule : goal.returns-in-Schedule
returns-in-Schedule g c = as_kind _ _ (sym (c.in-Some.is ∙ ap Some c.in-Schedule.is)) c.check_schedule_input.ensures

pub returns-in-Sheets : goal.returns-in-Sheets
returns-in-Sheets g c = as_kind _ _ (sym (c.in-Some.is ∙ ap Some c.in-Sheets.is)) c.check_two_sheets.ensures
