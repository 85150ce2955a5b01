-- One node in two worlds: it gets the same packet under two numbers, and answers alike. Where it has forgotten its ballot it doesn't.
use Rattle.std.proofs.Common.{arith}
use Rattle.std.specs.Prelude.{◌≡◌, List, [], ◌∷◌, drop, Some, None, slice_get, codes, refl}
use Rattle.std.specs.Fmt.{digits}
use Rattle.jiff_core.specs.Calendar.{days_from_civil, day_count, days_of_years, days_of_months}
use Rattle.metering_model.specs.NumberText.{worth_of, decimals_of}
use Rattle.metering_model.specs.World.{World, Event, Journal, Deliver, Start, Restart, Good, Accept, Delivered, opening}
use Rattle.metering_model.specs.Step.{play, step}
use Rattle.metering_model.proofs.Samples.{sheet_0, issuer_1}
use Rattle.group_laws.specs.Alone.{unnumbered}
use Rattle.group_laws.specs.OneNode.{AgreeAtNode, SameStepAt}
use Rattle.group_laws.proofs.OneNode.{delivered_alike}

abbrev first : Event
first = Journal (Good (codes "B1|1|1|0\n"))

abbrev second : Event
second = Journal (Good (codes "B1|1|2|0\n"))

abbrev after : List Event → World
after es = (play (opening 1 0 1 sheet_0 issuer_1) es).1

-- Node 0 has begun ballot 1 and promised it. The promise is packet 1 of the one world, and packet 3 of the other.
abbrev one : World
one = after (Start 0 ∷ Deliver 0 0 ∷ [])

abbrev other : World
other = after (first ∷ second ∷ Start 0 ∷ Deliver 2 0 ∷ [])

it_is_the_same_node : AgreeAtNode 0 one other
unfolding days_from_civil day_count days_of_years days_of_months worth_of decimals_of digits
it_is_the_same_node = record { sheet = refl; issuer = refl; agents = refl; voters = refl; node = refl; room = omega arith; room_too = omega arith }

it_is_the_same_packet : slice_get other.packets 3 ≡ slice_get one.packets 1
unfolding days_from_civil day_count days_of_years days_of_months worth_of decimals_of digits
it_is_the_same_packet = refl

so_it_acts_alike : SameStepAt 0 one other (step one (Deliver 1 0)) (step other (Deliver 3 0))
so_it_acts_alike = delivered_alike one other 0 1 3 it_is_the_same_node it_is_the_same_packet

-- it proposes its cut in both, under the number that comes next there
it_proposes : ((step one (Deliver 1 0)).0 ≡ Delivered (Some 2) None) × ((step other (Deliver 3 0)).0 ≡ Delivered (Some 4) None)
unfolding days_from_civil day_count days_of_years days_of_months worth_of decimals_of digits
it_proposes = (refl, refl)

what_it_sends : drop 4 (step other (Deliver 3 0)).1.packets ≡ Accept 0 1 (0 ∷ []) ∷ []
unfolding days_from_civil day_count days_of_years days_of_months worth_of decimals_of digits
what_it_sends = refl

-- a false world: in it the node restarted, and so has no ballot to propose at
restarted_it_sends_nothing : unnumbered (step (after (first ∷ second ∷ Start 0 ∷ Deliver 2 0 ∷ Restart 0 ∷ [])) (Deliver 3 0)).0 ≡ Delivered None None
unfolding days_from_civil day_count days_of_years days_of_months worth_of decimals_of digits
restarted_it_sends_nothing = refl
