-- Which runs are reported.
use Rattle.std.specs.Prelude.{◌≡◌, ◌-◌, map, Ok, Err}
use Rattle.metering_model.specs.History.{IsLegal}
use Rattle.node_threads.specs.Headline.{HoldsAfter}
use Rattle.price_sheet.specs.Samples.{sample_issuer}
use Rattle.price_sheet.specs.SheetReading.{sheet_of_text}
use Rattle.price_sheet.specs.declared.SheetFault.{SheetFault}
use Rattle.node_threads.specs.Words.{Agree, FilesAgree, LeavesNothingOut, opened}
pub use Rattle.node_threads.specs.Runs.{Run}
use Rattle.threads_player.specs.declared.sizes.Size.{Size}
use Rattle.threads_player.specs.Groups.{journals_of}
use Rattle.threads_player.specs.SampleSheet.{sample_sheet_text}

-- The plan is that of the group, receipts agree with it, all files of one period are the same bytes, the last one takes all that
-- is left up to each agent's first batch that is not due, the history is one that one thread could have made, and the headline
-- holds of it.
pub record IsRunOf (size : Size) (run : Run) : Type 0 where
  pub voters : run.plan.voters ≡ size.nodes
  pub observers : run.plan.observers ≡ 0
  pub sheet : sheet_of_text sample_sheet_text ≡ Ok run.plan.sheet
  pub issuer : run.plan.issuer ≡ sample_issuer
  pub journals : run.plan.journals ≡ journals_of size
  pub periods : run.plan.periods ≡ size.periods
  pub agree : Agree run.book run.plan run.logs
  pub files : FilesAgree run.logs
  pub whole : LeavesNothingOut run.book (run.plan.periods - 1)
  pub history : IsLegal (opened run.book) run.book.history run.book.world
  pub headline : HoldsAfter run.book.voters run.book.observers run.book.agents run.book.sheet run.book.issuer (map (λ e. e.event) run.book.history) (map (λ e. e.reply) run.book.history) run.book.world

-- The text of the sample sheet is refused.
abbrev pub IsSheetRefused : Type 0
IsSheetRefused = (fault : SheetFault) × (sheet_of_text sample_sheet_text ≡ Err fault)
