-- What the sink was given, from nothing on, is the file.
use Rattle.std.proofs.Common.{◌++◌, ap, ◌∙◌}
use Rattle.metering_model.specs.Transcript.{file_of}
use Rattle.node_book.proofs.done.rendered.Goals as goal

pub returns-in-Ok : goal.returns-in-Ok
returns-in-Ok g c =
    ap (λ v. v.items) c.into_inner.ensures
    ∙ c.in-Ok.ensures.written
    ∙ ap (λ t. t ++ file_of c.args.snapshot.now) (ap (λ v. v.items) c.new-sink.ensures.inner ∙ c.new.ensures.items)
