-- What was put behind nothing is the file.
use Rattle.std.proofs.Common.{◌++◌, ap, ◌∙◌}
use Rattle.metering_model.specs.Transcript.{file_of}
use Rattle.node_book.proofs.done.rendered_here.Goals as goal

pub returns : goal.returns
returns c =
    c.in_ok-put_csv.ensures.put
    ∙ ap (λ t. t ++ file_of c.args.snapshot.now) c.new-text.ensures.items
