-- A run with one more event, or with more behind it.
use Rattle.std.proofs.Common.{◌≡◌, List, [], ◌∷◌, ◌++◌, refl, ap}
use Rattle.metering_model.specs.World.{World, Event}
use Rattle.metering_model.specs.Step.{step, play}

pub play-append : (w : World) (es more : List Event) → (play w (es ++ more)).1 ≡ (play (play w es).1 more).1
play-append w [] more = refl
play-append w (e ∷ es) more = play-append (step w e).1 es more

pub replies-append : (w : World) (es more : List Event) → (play w (es ++ more)).0 ≡ (play w es).0 ++ (play (play w es).1 more).0
replies-append w [] more = refl
replies-append w (e ∷ es) more = ap (λ rs. (step w e).0 ∷ rs) (replies-append (step w e).1 es more)

pub play-last : (w : World) (es : List Event) (e : Event) → (play w (es ++ e ∷ [])).1 ≡ (step (play w es).1 e).1
play-last w es e = play-append w es (e ∷ [])

pub replies-last : (w : World) (es : List Event) (e : Event) → (play w (es ++ e ∷ [])).0 ≡ (play w es).0 ++ (step (play w es).1 e).0 ∷ []
replies-last w es e = replies-append w es (e ∷ [])
