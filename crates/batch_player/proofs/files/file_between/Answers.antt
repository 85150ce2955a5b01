-- The text is empty before the file is put into it, and the rows of the batches are those between the two cuts.
use Rattle.std.proofs.Common.{ap, ◌∙◌, ◌++◌}
use Rattle.metering_model.specs.File.{file}
use Rattle.focus_csv.specs.Rows.{joined}
use Rattle.batch_player.proofs.files.file_between.Goals as goal

pub returns-clause-file : goal.returns-clause-file
returns-clause-file c =
    c.in_ok-put_file.ensures.put
    ∙ ap (λ t. t ++ file (joined c.in_ok-batches.batches)) c.new-text.ensures.items
    ∙ ap file c.in_ok-batches.ensures

pub returns-clause-journals : goal.returns-clause-journals
returns-clause-journals c = λ journals holding part lacking.
    c.in_ok-put_file.ensures.put
    ∙ ap (λ t. t ++ file (joined c.in_ok-batches.batches)) c.new-text.ensures.items
    ∙ ap file (c.in_ok-batches.ensures ∙ c.rows_stay.ensures c.args.sheet.now c.args.issuer.now c.args.store.now.batches journals
    c.args.period c.args.from.now c.args.to.now c.agents-agents.ensures.stored.is_holding holding part lacking c.requires.charged.grows)
