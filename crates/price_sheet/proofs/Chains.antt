-- A step whose fault is told of a place.
use Rattle.std.proofs.Common.{◌≡◌, ◌≢◌, false, Result, Ok, Err, IfOk, IfErr, refl, sym, ap, subst, ◌∙◌}
use Rattle.std.specs.Result.{OnOk, IsErr, IsErrAnd, is_err}
use Rattle.sheet_text.specs.declared.keys.KeyFault.{KeyFault}
use Rattle.sheet_text.specs.declared.keys.KeyFault.TheVariants as key_faults
use Rattle.sheet_text.specs.declared.faults.Place.{Place}
use Rattle.sheet_text.specs.declared.faults.SheetFault.{SheetFault}
use Rattle.sheet_text.specs.declared.faults.SheetFault.TheVariants as sheet_faults
use Rattle.sheet_text.specs.Gives.{Fails, Gives}
use Rattle.price_sheet.specs.SheetReading.{fault_at, at_place}

pub placed_fails : {A : Type 0} (place : Place) (e : KeyFault) (r : Result A KeyFault) → Fails e r → fault_at place e ≢ sheet_faults.OutOfMemory → at_place place r ≡ Err (fault_at place e)
placed_fails place key_faults.OutOfMemory r h told_apart = absurd (told_apart refl)
placed_fails place (key_faults.Missing key) r h told_apart = ap (at_place place) h
placed_fails place (key_faults.BadValue key) r h told_apart = ap (at_place place) h

err_same : {A E : Type 0} {x y : E} → ◌≡◌ {A = Result A E} (Err x) (Err y) → x ≡ y
err_same h = cc

-- what was read at a place is what reading gives there
pub placed_taken : {X Y : Type 0} (view : X → Y) (place : Place) (r : Result X KeyFault) (read : Result Y KeyFault) (x : X) → Gives view r read → Ok x ≡ at_place place r → at_place place read ≡ Ok (view x)
placed_taken view place (Ok y) read x gives is =
    let same : y ≡ x = cc in
    ap (at_place place) gives ∙ ap (λ z. Ok (view z)) same
placed_taken view place (Err e) read x gives is = absurd (cc)

-- and so is its fault, that is not want of memory
pub placed_refused : {X Y : Type 0} (view : X → Y) (place : Place) (r : Result X KeyFault) (read : Result Y KeyFault) (fault : SheetFault)
    → Gives view r read → Err fault ≡ at_place place r → fault ≢ sheet_faults.OutOfMemory → at_place place read ≡ Err fault
placed_refused view place (Ok x) read fault gives is other = absurd (cc)
placed_refused view place (Err key_faults.OutOfMemory) read fault gives is other =
    let same : fault ≡ sheet_faults.OutOfMemory = cc in
    absurd (other same)
placed_refused view place (Err (key_faults.Missing key)) read fault gives is other = ap (at_place place) gives ∙ ap Err (err_same (sym is))
placed_refused view place (Err (key_faults.BadValue key)) read fault gives is other = ap (at_place place) gives ∙ ap Err (err_same (sym is))

-- ---- what was read, and what it is told as

-- told as a row, it is one that was read
pub taken_as : {A : Type 0} (tell : Result A KeyFault → Result A SheetFault) (r read : Result A KeyFault) (told : Result A SheetFault)
    → tell (Err key_faults.OutOfMemory) ≡ Err sheet_faults.OutOfMemory → Gives (λ x. x) r read → told ≡ tell r → IfOk told (λ x. tell read ≡ Ok x)
taken_as tell (Ok x) read (Ok y) want gives is = ap tell gives ∙ sym is
taken_as tell (Err key_faults.OutOfMemory) read (Ok y) want gives is = absurd (cc)
taken_as tell (Err (key_faults.Missing key)) read (Ok y) want gives is = ap tell gives ∙ sym is
taken_as tell (Err (key_faults.BadValue key)) read (Ok y) want gives is = ap tell gives ∙ sym is
taken_as tell r read (Err fault) want gives is = tt

-- told as a fault that is not want of memory, so is what is read
pub refused_as : {A : Type 0} (tell : Result A KeyFault → Result A SheetFault) (r read : Result A KeyFault) (told : Result A SheetFault)
    → tell (Err key_faults.OutOfMemory) ≡ Err sheet_faults.OutOfMemory → Gives (λ x. x) r read → told ≡ tell r
    → IfErr told (λ fault. fault ≢ sheet_faults.OutOfMemory → tell read ≡ Err fault)
refused_as tell r read (Ok x) want gives is = tt
refused_as tell (Ok x) read (Err fault) want gives is = λ other. ap tell gives ∙ sym is
refused_as tell (Err key_faults.OutOfMemory) read (Err fault) want gives is = λ other.
    let same : fault ≡ sheet_faults.OutOfMemory = cc in
    absurd (other same)
refused_as tell (Err (key_faults.Missing key)) read (Err fault) want gives is = λ other. ap tell gives ∙ sym is
refused_as tell (Err (key_faults.BadValue key)) read (Err fault) want gives is = λ other. ap tell gives ∙ sym is

-- a call that returned no error did what it promises
pub went : {A E P : Type 0} (r : Result A E) → OnOk r P → false ≡ is_err r → P
went (Ok x) done is = done
went (Err e) done is = absurd (cc)

-- the fault that `?` hands on
pub handed_on : {A E : Type 0} (P : E → Type 0) (r : Result A E) (fault : E) → IsErr r × IsErrAnd r (λ e. e ≡ fault) → P fault → IfErr r P
handed_on P (Ok x) fault told h = tt
handed_on P (Err e) fault told h = subst P (sym told.1) h
