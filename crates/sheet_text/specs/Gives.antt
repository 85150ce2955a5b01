-- What a call answers, seen by `view`, is what reading gives, unless memory ran out.
use Rattle.std.specs.Prelude.{◌≡◌, ⊤, Result, Ok, Err}
use Rattle.sheet_text.specs.Keys.{KeyFault}
use Rattle.sheet_text.specs.declared.keys.KeyFault.TheVariants as key_faults

abbrev pub Fails : {Y : Type 0} → KeyFault → Result Y KeyFault → Type 0
Fails key_faults.OutOfMemory read = ⊤
Fails (key_faults.Missing key) read = read ≡ Err (key_faults.Missing key)
Fails (key_faults.BadValue key) read = read ≡ Err (key_faults.BadValue key)

abbrev pub Gives : {X Y : Type 0} → (X → Y) → Result X KeyFault → Result Y KeyFault → Type 0
Gives view (Ok x) read = read ≡ Ok (view x)
Gives view (Err e) read = Fails e read
