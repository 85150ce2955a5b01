-- What a line gives, from what its plain fields give.
use Rattle.std.proofs.Common.{◌≡◌, true, Option, Some, None, Result, Ok, Err, IfOk, IfSome, refl, sym, subst, ◌∙◌}
use Rattle.std.proofs.lemmas.Option.{none-some, same_Some}
use Rattle.metering_model.specs.declared.BatchCode.{BatchCode}
use Rattle.metering_model.specs.declared.BatchCode.TheVariants.{Fields}
use Rattle.metering_model.specs.declared.Version.{Version}
use Rattle.metering_model.specs.declared.Version.TheVariants.{B1, B2}
use Rattle.record_view.specs.declared.fields.Field.{Field}
use Rattle.record_view.specs.declared.records.Record.{Record}
use Rattle.metering_model.specs.Batch.{is_text}
use Rattle.record_view.specs.Parts.{LentText}
use Rattle.record_view.specs.Inner.LineFields.{IsBehind, IsBeforeRegion}

-- a record that may be there, as the answer of a reader that always tells a fault
abbrev pub answered : Option Record → Result Record BatchCode
answered (Some r) = Ok r
answered None = Err Fields

pub if_answered : (found : Option Record) (P : Record → Type 0) → IfSome found P → IfOk (answered found) P
if_answered (Some r) P h = h
if_answered None P h = tt

pub if_found : (found : Option Record) (P : Record → Type 0) → IfOk (answered found) P → IfSome found P
if_found (Some r) P h = h
if_found None P h = tt

-- where no region was taken off, the line is whole
pub without_region : (version : Version) (rest front : LentText) (region : Option Field) → IsBeforeRegion version rest front region → region ≡ None
    → (version ≡ B1) × (front ≡ rest)
without_region B1 rest front region h none = (refl, h.0)
without_region B2 rest front None h none = absurd h
without_region B2 rest front (Some f) h none = absurd (none-some f (sym none))

pub with_region : (version : Version) (rest front : LentText) (region : Option Field) (f : Field) → IsBeforeRegion version rest front region → region ≡ Some f
    → (version ≡ B2) × IsBehind rest front f
with_region B1 rest front region f h some = absurd (none-some f (sym h.1 ∙ some))
with_region B2 rest front None f h some = absurd h
with_region B2 rest front (Some g) f h some = (refl, subst (IsBehind rest front) (same_Some g f some) h)

-- what is said of a region that was taken off is said of that region
pub some_text : (region : Option Field) (f : Field) → IfSome region (λ g. is_text g.text.now ≡ true) → region ≡ Some f → is_text f.text.now ≡ true
some_text None f h some = absurd (none-some f some)
some_text (Some g) f h some = subst (λ x. is_text x.text.now ≡ true) (same_Some g f some) h
