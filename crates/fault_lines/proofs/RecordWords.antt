-- What is told of the record of a batch that there is not.
use Rattle.std.proofs.Common.{◌≡◌, ℕ, ◌≤◌, Bool, true, false, List, [], ◌++◌, length, Some, Err, refl, sym, ap, ◌∙◌, append-nil}
use Rattle.std.proofs.lemmas.Option.{slice_get_past}
use Rattle.metering_model.specs.BatchReading.{batch_in}
use Rattle.metering_model.specs.Sheet as model
use Rattle.metering_model.specs.declared.BatchFault.{BatchFault}
use Rattle.batch_view.specs.Batches.{batch_of}
use Rattle.fault_lines.specs.Told.{record_at, record_words}

pub none_told : (sheet : model.Sheet) (text : List ℕ) (index : ℕ) → length (batch_of text).records ≤ index → record_words sheet (record_at text (Some index)) ≡ []
none_told sheet text index past = ap (record_words sheet) (slice_get_past (batch_of text).records index past)

pub no_batch_told : (sheet : model.Sheet) (text : List ℕ) (index : ℕ) (fault : BatchFault) → batch_in text ≡ Err fault → record_words sheet (record_at text (Some index)) ≡ []
unfolding batch_of
no_batch_told sheet text index fault is = rw is refl

pub never : ◌≡◌ {A = Bool} false true → ⊥
never is = cc

pub nothing_more : (told words : List ℕ) → words ≡ [] → told ≡ told ++ words
nothing_more told words none = sym (ap (λ t. told ++ t) none ∙ append-nil told)
