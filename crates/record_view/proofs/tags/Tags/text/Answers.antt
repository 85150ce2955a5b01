-- The text that the tags were read from is read as them again.
use Rattle.record_view.specs.Parts.{lent}
use Rattle.record_view.proofs.TagLaws.{tags_read}
use Rattle.record_view.proofs.tags.Tags.text.Goals as goal

pub returns : goal.returns
returns c = tags_read (lent c.args.self.now.rest) c.args.self.now.tags
