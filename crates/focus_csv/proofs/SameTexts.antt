-- Texts that are the same, as they are compared.
use Rattle.std.proofs.Common.{◌≡◌, ℕ, Bool, List, sym, ap, ◌∙◌}
use Rattle.std.specs.Prelude.{◌↔◌, IsTrue}
use Rattle.metering_model.specs.BatchReading.{is_same}
use Rattle.metering_model.proofs.FieldLaws.{same_read}
use Rattle.byte_text.proofs.SameTexts.{same_text}

pub told_same : (answer : Bool) (xs ys : List ℕ) → answer ≡ is_same xs ys → IsTrue answer ↔ (xs ≡ ys)
told_same answer xs ys is = (λ yes. same_read xs ys (sym is ∙ yes), λ same. is ∙ ap (is_same xs) (sym same) ∙ same_text xs)
