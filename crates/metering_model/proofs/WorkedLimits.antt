-- Limits that follow from others; how near amounts come to theirs, and what passes them where a sheet or an amendment breaks its rule.
use Rattle.std.specs.Prelude.{◌≡◌, ◌+◌, ◌*◌, ◌<◌, [], ◌∷◌, Some, None, pos, negsuc, ◌≤ℤ◌, codes}
use Rattle.std.proofs.Common.{refl, arith}
use Rattle.std.proofs.lemmas.Int.{ints}
use Rattle.metering_model.specs.Limits.{most_records, last_index, most_agents, last_sequence, most_batches, most_periods, last_period, first_base_month, last_base_month, most_nodes, last_node, most_rounds, last_ballot, most_packets, last_packet, most_journal_lines}
use Rattle.metering_model.specs.NumberText.{cost_limit}
use Rattle.metering_model.specs.Batch.{B1, Reading, Reads, Amends}
use Rattle.metering_model.specs.declared.Kind.TheVariants.{Usage}
use Rattle.metering_model.specs.Sheet.{PriceRow}
use Rattle.metering_model.specs.Holding.{Holding, records_in_order}
use Rattle.metering_model.specs.ValueAtSequence.{value_at}
use Rattle.metering_model.specs.Rating.{cost_at, rated, Usage as PricedUsage}
use Rattle.metering_model.specs.JournalRules.{first_broken, BadTarget}
use Rattle.metering_model.specs.Ballot.{ballot_of}
use Rattle.metering_model.specs.Totals.{amounts_of, AreWithinLimits}
use Rattle.metering_model.proofs.Samples.{cpu_plan, sheet_1}

-- the limits that follow from others
last_index_is_of_the_last_record : last_index + 1 ≡ most_records
last_index_is_of_the_last_record = refl

last_period_is_the_last : last_period + 1 ≡ most_periods
last_period_is_the_last = refl

last_node_is_the_last : last_node + 1 ≡ most_nodes
last_node_is_the_last = refl

last_packet_is_the_last : last_packet + 1 ≡ most_packets
last_packet_is_the_last = refl

batches_are_of_all_agents : most_agents * last_sequence ≡ most_batches
batches_are_of_all_agents = refl

last_ballot_is_of_the_last_node : ballot_of most_rounds last_node most_nodes ≡ last_ballot
last_ballot_is_of_the_last_node = refl

a_journal_has_a_head_line_and_records : 1 + most_records ≡ most_journal_lines
a_journal_has_a_head_line_and_records = refl

base_months_begin_in_2000 : 12 * 2000 ≡ first_base_month
base_months_begin_in_2000 = refl

base_months_end_in_2100 : 12 * 2100 + 11 ≡ last_base_month
base_months_end_in_2100 = refl

-- the greatest price, from the least value to the greatest
greatest_cost : cost_at 999_999_999_999 (pos 1_999_999_999_999_999_998) ≡ pos 1_999_999_999_997_999_998_000_000_000_002
greatest_cost = refl

greatest_cost_is_within : 1_999_999_999_997_999_998_000_000_000_002 < cost_limit
greatest_cost_is_within = omega arith

-- a price of a million units more than the limit is too much
abbrev dear : PriceRow
dear = record cpu_plan { list = 1_000_001_000_000 }

a_price_past_its_limit_breaks_that_of_costs :
    AreWithinLimits (amounts_of (rated dear None PricedUsage (negsuc 999_999_999_999_999_998) (pos 999_999_999_999_999_999))) → ⊥
a_price_past_its_limit_breaks_that_of_costs within =
    let list : 2_000_001_999_999_999_997_999_998_000_000 < cost_limit = within.list in
    omega arith

-- a negative amendment of usage, which the journal rules refuse, gives it a negative value
abbrev metered : Reading
metered = record {
  kind = Usage;
  start = pos 1_736_467_200;
  end = pos 1_736_474_400;
  start_text = codes "2025-01-10T00:00:00Z";
  end_text = codes "2025-01-10T02:00:00Z";
  account = [];
  resource = [];
  key = codes "cpu";
  value = pos 5_400_000_000;
  commitment = [];
  tags = [];
  region = None;
}

abbrev unfit : Holding
unfit = record { version = B1; agent = 1; seq = 1; records = Reads metered ∷ Amends 1 0 (negsuc 0) ∷ [] } ∷ []

unfit_is_refused : first_broken sheet_1 unfit (records_in_order unfit) ≡ Some BadTarget
unfit_is_refused = refl

unfit_value_is_negative : pos 0 ≤ℤ value_at unfit (record { agent = 1; seq = 1; index = 0 }) 1 → ⊥
unfit_value_is_negative h = let least : pos 0 ≤ℤ negsuc 0 = h in omega (arith, ints)
