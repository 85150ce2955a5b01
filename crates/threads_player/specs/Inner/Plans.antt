-- What the plan of a group is.
use Rattle.std.specs.Prelude.{◌≡◌, Ok}
use Rattle.node_threads.specs.declared.Plan.{Plan}
use Rattle.node_threads.specs.Words.{plan_of}
use Rattle.price_sheet.specs.Samples.{sample_issuer}
use Rattle.price_sheet.specs.SheetReading.{sheet_of_text}
use Rattle.threads_player.specs.declared.sizes.Size.{Size}
use Rattle.threads_player.specs.Groups.{journals_of}
use Rattle.threads_player.specs.SampleSheet.{sample_sheet_text}

-- A plan for a group of that size: each node votes, the sheet and the issuer are the samples, each agent has its texts to journal,
-- and so many periods are closed.
pub record IsPlanOf (size : Size) (plan : Plan) : Type 0 where
  pub voters : (plan_of plan).voters ≡ size.nodes
  pub observers : (plan_of plan).observers ≡ 0
  pub sheet : sheet_of_text sample_sheet_text ≡ Ok (plan_of plan).sheet
  pub issuer : (plan_of plan).issuer ≡ sample_issuer
  pub journals : (plan_of plan).journals ≡ journals_of size
  pub periods : (plan_of plan).periods ≡ size.periods
