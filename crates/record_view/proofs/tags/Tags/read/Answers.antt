-- A text that is tags has the model's tags.
use Rattle.std.proofs.Common.{◌∙◌, sym}
use Rattle.record_view.specs.Parts.{lent}
use Rattle.record_view.proofs.TagLaws.{tags_read, tags_not_read}
use Rattle.record_view.proofs.tags.Tags.read.Goals as goal

pub returns-then-are_tags-clause-read : goal.returns-then-are_tags-clause-read
returns-then-are_tags-clause-read c = sym (tags_read (lent c.args.text) (sym c.are_tags.ensures ∙ c.if-are_tags.true))

pub returns-else-are_tags-clause-read : goal.returns-else-are_tags-clause-read
returns-else-are_tags-clause-read c = sym (tags_not_read c.args.text.text.now (sym c.are_tags.ensures ∙ c.if-are_tags.false))
