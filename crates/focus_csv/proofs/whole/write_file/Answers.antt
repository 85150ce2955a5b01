use Rattle.std.proofs.Common.{◌∙◌, subst, rules}
use Rattle.std.specs.Prelude.{OnOk}
use Rattle.std.specs.Io.KnownBytes.{Appends}
use Rattle.focus_csv.proofs.whole.write_file.Goals as goal

pub returns-in_default-clause-kept : goal.returns-in_default-clause-kept
returns-in_default-clause-kept c = search rules

pub returns-in_default-clause-count : goal.returns-in_default-clause-count
returns-in_default-clause-count c = search rules

pub returns-clause-prefix : goal.returns-clause-prefix
returns-clause-prefix c = search rules

pub returns-clause-fault : goal.returns-clause-fault
returns-clause-fault c = search rules

pub returns-clause-kept : goal.returns-clause-kept
returns-clause-kept c = search rules

pub returns-clause-written : goal.returns-clause-written
returns-clause-written g c =
    subst (λ t. OnOk c.write_text.result (Appends (g.W.Sink.contents c.args.sink.now) (g.W.Sink.contents c.write_text.new.sink) t))
    (c.as_slice.ensures.value ∙ c.in-Ok.ensures) c.write_text.ensures.written
