-- Equal batches have equal bytes.
use Rattle.std.proofs.Common.{◌≡◌, ℕ, List, sym, ap, ◌∙◌, Ok}
use Rattle.metering_model.specs.Batch.{batch_text}
use Rattle.metering_model.specs.BatchReading.{batch_in}
use Rattle.metering_model.proofs.BatchLaws.{batch_read}
use Rattle.batch_view.specs.Batches.{batch_of}

pub same_bytes : (x y : List ℕ) → batch_in x ≡ Ok (batch_of x) → batch_in y ≡ Ok (batch_of y) → batch_of x ≡ batch_of y → x ≡ y
same_bytes x y read_x read_y same =
    (batch_read x (batch_of x) read_x).joined ∙ (ap batch_text same ∙ sym (batch_read y (batch_of y) read_y).joined)
