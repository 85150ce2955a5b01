-- A part that is followed by others is a tag, and they are tags; so is the only part.
use Rattle.std.proofs.Common.{length, ap}
use Rattle.record_view.specs.Parts.{lent}
use Rattle.record_view.proofs.TagLaws.{first_part, last_part}
use Rattle.record_view.proofs.tags.first_part.Goals as goal

pub returns-in-Some-clause-first : goal.returns-in-Some-clause-first
returns-in-Some-clause-first c =
    first_part (lent c.args.text) _ _ c.requires.some c.requires.tags c.in-Some.ensures.parts

pub returns-in-None-clause-first : goal.returns-in-None-clause-first
returns-in-None-clause-first c =
    last_part (lent c.args.text) _ c.requires.some c.requires.tags c.in-None.ensures.parts (ap length c.end_of.ensures.empty)
