-- Two agents journal: each batch is answered as where its agent journals alone, and not as where the other does.
use Rattle.std.proofs.Common.{arith}
use Rattle.std.specs.Prelude.{◌≡◌, [], ◌∷◌, List, codes, refl}
use Rattle.std.specs.Fmt.{digits}
use Rattle.jiff_core.specs.Calendar.{days_from_civil, day_count, days_of_years, days_of_months}
use Rattle.metering_model.specs.NumberText.{worth_of, decimals_of}
use Rattle.metering_model.specs.World.{World, Event, Journal, Good, Journaled, Refused, opening}
use Rattle.metering_model.specs.declared.Refusal.TheVariants.{WrongSeq}
use Rattle.metering_model.specs.Step.{play, step}
use Rattle.metering_model.proofs.Samples.{sheet_0, issuer_1}
use Rattle.group_laws.specs.OneAgent.{AgreeAtAgent, SameJournalOf}
use Rattle.metering_model.specs.Limits.{most_packets}
use Rattle.group_laws.proofs.Limits.{keeps_limits}
use Rattle.group_laws.proofs.OneAgent.{journaled_alike}

abbrev first_of_2 : Event
first_of_2 = Journal (Good (codes "B1|2|1|0\n"))

abbrev first_of_1 : Event
first_of_1 = Journal (Good (codes "B1|1|1|0\n"))

abbrev second_of_1 : Event
second_of_1 = Journal (Good (codes "B1|1|2|0\n"))

abbrev after : List Event → World
after es = (play (opening 1 0 2 sheet_0 issuer_1) es).1

-- In the one world both agents have journaled, in the other agent 1 alone.
abbrev both : World
both = after (first_of_2 ∷ first_of_1 ∷ [])

abbrev alone : World
alone = after (first_of_1 ∷ [])

they_agree_at_agent_1 : AgreeAtAgent 1 both alone
unfolding days_from_civil day_count days_of_years days_of_months worth_of decimals_of digits
they_agree_at_agent_1 = record {
  sheet = refl;
  agents = refl;
  batches = refl;
  holding = (keeps_limits most_packets 1 0 2 sheet_0 issuer_1 (first_of_2 ∷ first_of_1 ∷ [])).rules.is_holding;
  holding_too = (keeps_limits most_packets 1 0 2 sheet_0 issuer_1 (first_of_1 ∷ [])).rules.is_holding;
  room = omega arith;
  room_too = omega arith;
}

so_its_batch_is_answered_alike : SameJournalOf 1 both alone (step both second_of_1) (step alone second_of_1)
unfolding days_from_civil day_count days_of_years days_of_months worth_of decimals_of digits
so_its_batch_is_answered_alike = journaled_alike both alone (Good (codes "B1|1|2|0\n")) _ refl they_agree_at_agent_1

-- under the number that comes next in each
it_is_journaled : ((step both second_of_1).0 ≡ Journaled 2) × ((step alone second_of_1).0 ≡ Journaled 1)
unfolding days_from_civil day_count days_of_years days_of_months worth_of decimals_of digits
it_is_journaled = (refl, refl)

-- a world in which the other agent has journaled alone
and_not_where_the_other_is : (step (after (first_of_2 ∷ [])) second_of_1).0 ≡ Refused (WrongSeq 1)
unfolding days_from_civil day_count days_of_years days_of_months worth_of decimals_of digits
and_not_where_the_other_is = refl
