-- What a likeness is in the words of what is said.
use Rattle.sheet_changes.specs.Changes as model
use Rattle.sheet_changes.specs.declared.comparisons.Likeness.{Likeness}
use Rattle.sheet_changes.specs.declared.comparisons.Likeness.TheVariants.{Alike, AlikeBefore, UnlikeBase, UnlikeCommitment}

-- an id by its bytes
abbrev pub likeness_of : Likeness → model.Likeness
likeness_of Alike = model.Alike
likeness_of (AlikeBefore day) = model.AlikeBefore day
likeness_of UnlikeBase = model.UnlikeBase
likeness_of (UnlikeCommitment id) = model.UnlikeCommitment id.now
