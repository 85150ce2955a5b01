-- Two stamps that were read together, each by itself.
use Rattle.std.proofs.Common.{◌≡◌, ℤ, Option, Some, None, sym, ap}
use Rattle.std.proofs.lemmas.Option.{none-some, same_Some}
use Rattle.std.specs.Option.{option_zip}

pub zipped : (a b : Option ℤ) (p : ℤ × ℤ) → Some p ≡ option_zip a b → (a ≡ Some p.0) × (b ≡ Some p.1)
zipped None b p h = absurd (none-some p (sym h))
zipped (Some x) None p h = absurd (none-some p (sym h))
zipped (Some x) (Some y) p h =
    let same = same_Some p (x, y) h in
    (ap (λ q. Some q.0) (sym same), ap (λ q. Some q.1) (sym same))
