use Rattle.std.proofs.Common.{◌∙◌, ap}
use Rattle.batch_view.specs.Inner.Given.{kind_found}
use Rattle.batch_view.proofs.EntryLaws.{kind_there, no_kind_there}
use Rattle.batch_view.proofs.batch.kept_kind.Goals as goal

pub returns-in-Some : goal.returns-in-Some
returns-in-Some c =
    c.kind_found.ensures ∙ ap kind_found c.found.ensures ∙ kind_there c.args._bytes.now c.args._head c.args.entries.now c.args.index c.in-Some.entry.now c.requires c.in-Some.ensures

pub returns-in-None : goal.returns-in-None
returns-in-None c = no_kind_there c.args._bytes.now c.args._head c.args.entries.now c.args.index c.requires c.in-None.ensures
