-- Runs that the laws speak of, with something in them: chosen cuts, equal exports, a new charge and its correction.
use Rattle.std.proofs.Common.{sym, ap, subst, ◌∙◌, ◌≤◌, ℤ, pos, count_by}
use Rattle.std.specs.Prelude.{◌≡◌, ℕ, List, [], ◌∷◌, map, Option, Some, None, slice_get, codes, refl}
use Rattle.std.specs.Fmt.{digits}
use Rattle.std.specs.List.{list_any, range_with_len}
use Rattle.std.proofs.Math.Dec.{lit≤}
use Rattle.std.proofs.lemmas.Option.{same_Some}
use Rattle.jiff_core.specs.Calendar.{days_from_civil, day_count, days_of_years, days_of_months}
use Rattle.metering_model.specs.NumberText.{worth_of, decimals_of}
use Rattle.metering_model.specs.declared.Kind.TheVariants.{Usage}
use Rattle.metering_model.specs.declared.Version.TheVariants.{B1}
use Rattle.metering_model.specs.Ballot.{majority}
use Rattle.metering_model.specs.Batch.{Batch, Reads, Amends}
use Rattle.metering_model.specs.Cut.{Cut}
use Rattle.metering_model.specs.Rows.{PlacedRow, placed_rows}
use Rattle.metering_model.specs.Holding.{Holding, Position}
use Rattle.metering_model.specs.World.{Packet, CarriesBatch, Prepare, Promise, Accept, Accepted, World, Event, Snapshot, Reply, Journaled, Delivered, Started, Restarted, Exported, KeptText, Refused, opening}
use Rattle.metering_model.specs.Step.{play}
use Rattle.metering_model.specs.Chosen.{IsChosen, accepts}
use Rattle.metering_model.specs.Schedule.{Schedule, event_of}
use Rattle.metering_model.proofs.Samples.{sheet_0, issuer_1}
use Rattle.metering_model.proofs.WorkedBallots.{whole_path, crossing_proposers}
use Rattle.metering_model.proofs.WorkedPeriods.{correction}
use Rattle.group_laws.specs.Headline.{HoldsAfter}
use Rattle.metering_model.specs.Limits.{most_packets}
use Rattle.group_laws.specs.EveryRun.{KeepsLimits}
use Rattle.group_laws.proofs.EveryRun.{holds_after, contains_at}
use Rattle.group_laws.proofs.Limits.{keeps_limits}

abbrev events_of : Schedule → List Event
events_of s = map event_of s.events

abbrev run_of : Schedule → List Reply × World
run_of s = play (opening s.voters s.observers s.agents sheet_0 issuer_1) (events_of s)

headline_of : (s : Schedule) → HoldsAfter s.voters s.observers s.agents sheet_0 issuer_1 (events_of s) (run_of s).0 (run_of s).1
headline_of s = holds_after most_packets s.voters s.observers s.agents sheet_0 issuer_1 (events_of s)

limits_of : (s : Schedule) → KeepsLimits most_packets s.voters s.observers s.agents (run_of s).1
limits_of s = keeps_limits most_packets s.voters s.observers s.agents sheet_0 issuer_1 (events_of s)

-- ---- what these runs sent and journaled: computed once, and the examples are proved of it as it is written

abbrev used : ℕ → ℤ → Batch
used seq value = record {
  version = B1;
  agent = 1;
  seq = seq;
  records = Reads (record {
    kind = Usage;
    start = pos 1_736_467_200;
    end = pos 1_736_474_400;
    start_text = codes "2025-01-10T00:00:00Z";
    end_text = codes "2025-01-10T02:00:00Z";
    account = codes "acc-7";
    resource = codes "vm-1";
    key = codes "cpu";
    value = value;
    commitment = [];
    tags = record { key = codes "env"; value = codes "prod" } ∷ [];
    region = None;
  }) ∷ [];
}

abbrev first_batch : Batch
first_batch = used 1 (pos 5_400_000_000)

abbrev amended_batch : Batch
amended_batch = record { version = B1; agent = 1; seq = 2; records = Amends 1 0 (pos 7_200_000_000) ∷ [] }

abbrev one_cut : Cut
one_cut = 1 ∷ []

abbrev two_cut : Cut
two_cut = 2 ∷ []

abbrev of_whole_path : List Packet
of_whole_path =
    CarriesBatch first_batch ∷ Prepare 0 3 ∷ Promise 0 0 3 None ∷ Promise 1 0 3 None ∷ Accept 0 3 one_cut ∷ Accepted 0 0 3 one_cut
    ∷ Accepted 1 0 3 one_cut ∷ []

abbrev of_crossing : List Packet
of_crossing =
    CarriesBatch first_batch ∷ CarriesBatch (used 2 (pos 3_600_000_000)) ∷ Prepare 0 3 ∷ Promise 0 0 3 None ∷ Promise 1 0 3 None
    ∷ Accept 0 3 one_cut ∷ Accepted 1 0 3 one_cut ∷ Prepare 0 5 ∷ Promise 2 0 5 None ∷ Promise 1 0 5 (Some (record { ballot = 3; cut = one_cut }))
    ∷ Accept 0 5 one_cut ∷ Accepted 1 0 5 one_cut ∷ Accepted 2 0 5 one_cut ∷ []

abbrev of_correction : List Packet
of_correction =
    CarriesBatch first_batch ∷ Prepare 0 1 ∷ Promise 0 0 1 None ∷ Accept 0 1 one_cut ∷ Accepted 0 0 1 one_cut ∷ CarriesBatch amended_batch
    ∷ Prepare 1 2 ∷ Promise 0 1 2 None ∷ Accept 1 2 two_cut ∷ Accepted 0 1 2 two_cut ∷ []

-- the period of an export
abbrev exported_period : Option Reply → Option ℕ
exported_period (Some (Exported s)) = Some s.period
exported_period _ = None

-- all of a run that is asked for, so that the run is computed once
abbrev told : List Reply × World → ℕ × List Packet × Holding × Option ℕ × Option ℕ
told run = (run.1.voters, run.1.packets, run.1.journals, exported_period (slice_get run.0 12), exported_period (slice_get run.0 15))

whole_path_tells : told (run_of whole_path) ≡ (3, of_whole_path, first_batch ∷ [], Some 0, Some 0)
unfolding days_from_civil day_count days_of_years days_of_months worth_of decimals_of digits
whole_path_tells = refl

crossing_tells : told (run_of crossing_proposers) ≡ (3, of_crossing, first_batch ∷ used 2 (pos 3_600_000_000) ∷ [], None, None)
unfolding days_from_civil day_count days_of_years days_of_months worth_of decimals_of digits
crossing_tells = refl

correction_tells : told (run_of correction) ≡ (1, of_correction, first_batch ∷ amended_batch ∷ [], None, Some 0)
unfolding days_from_civil day_count days_of_years days_of_months worth_of decimals_of digits
correction_tells = refl

module _ (w : World) (packets : List Packet) (voters period ballot : ℕ) (cut : Cut) where
  abbrev counted : List Packet → ℕ → ℕ
  counted ps n = count_by (λ node. list_any (accepts node period ballot cut) ps) (range_with_len 0 n)

  by_packets : w.packets ≡ packets → w.voters ≡ voters → majority voters ≤ counted packets voters → IsChosen w period cut
  by_packets sent vote many = record {
    ballot = ballot;
    by_majority =
        subst (λ (n : ℕ). majority n ≤ counted w.packets n) (sym vote)
        (subst (λ (ps : List Packet). majority voters ≤ counted ps voters) (sym sent) many);
  }

-- ---- one batch, two nodes, two equal exports

first_cut_is_chosen : IsChosen (run_of whole_path).1 0 (1 ∷ [])
first_cut_is_chosen = by_packets (run_of whole_path).1 of_whole_path 3 0 3 (1 ∷ []) (ap (λ t. t.1) whole_path_tells) (ap (λ t. t.0) whole_path_tells) (lit≤ tt)

-- so the headline's list begins with it
list_begins_with_it : slice_get (headline_of whole_path).cuts 0 ≡ Some (1 ∷ [])
list_begins_with_it = ((headline_of whole_path).are_the_cuts.chosen 0 (1 ∷ [])).1 first_cut_is_chosen

two_are_answered : (exported_period (slice_get (run_of whole_path).0 12) ≡ Some 0) × (exported_period (slice_get (run_of whole_path).0 15) ≡ Some 0)
two_are_answered = (ap (λ t. t.3) whole_path_tells, ap (λ t. t.4) whole_path_tells)

-- so by the headline they are equal
exported : (o : Option Reply) (p : ℕ) → exported_period o ≡ Some p → (s : Snapshot) × (o ≡ Some (Exported s)) × (s.period ≡ p)
exported None p e = absurd (cc)
exported (Some (Journaled k)) p e = absurd (cc)
exported (Some (Delivered sent learned)) p e = absurd (cc)
exported (Some (Started ballot k)) p e = absurd (cc)
exported (Some Restarted) p e = absurd (cc)
exported (Some (Refused refusal)) p e = absurd (cc)
exported (Some (KeptText text)) p e = absurd (cc)
exported (Some (Exported s)) p e = (s, refl, same_Some s.period p e)

exports_are_equal : slice_get (run_of whole_path).0 12 ≡ slice_get (run_of whole_path).0 15
exports_are_equal =
    let first = exported (slice_get (run_of whole_path).0 12) 0 two_are_answered.0 in
    let second = exported (slice_get (run_of whole_path).0 15) 0 two_are_answered.1 in
    let same = (headline_of whole_path).one_export first.0 second.0 (contains_at (run_of whole_path).0 12 (Exported first.0) first.1) (contains_at (run_of whole_path).0 15 (Exported second.0) second.1) (first.2 ∙ sym second.2) in
    first.1 ∙ (ap (λ s. Some (Exported s)) same ∙ sym second.1)

-- ---- a proposer that was told a vote sends its cut, so the cut asked for at two ballots is one

cut_of_both_ballots : IsChosen (run_of crossing_proposers).1 0 (1 ∷ [])
cut_of_both_ballots = by_packets (run_of crossing_proposers).1 of_crossing 3 0 5 (1 ∷ []) (ap (λ t. t.1) crossing_tells) (ap (λ t. t.0) crossing_tells) (lit≤ tt)

-- ---- a reading that is new in one period, and corrected in the next

abbrev corrected_world : World
corrected_world = (run_of correction).1

two_cuts_are_chosen : IsChosen corrected_world 0 (1 ∷ []) × IsChosen corrected_world 1 (2 ∷ [])
two_cuts_are_chosen = (by_packets corrected_world of_correction 1 0 1 (1 ∷ []) (ap (λ t. t.1) correction_tells) (ap (λ t. t.0) correction_tells) (lit≤ tt), by_packets corrected_world of_correction 1 1 2 (2 ∷ []) (ap (λ t. t.1) correction_tells) (ap (λ t. t.0) correction_tells) (lit≤ tt))

abbrev rows_of_period : ℕ → ℕ → ℕ → List PlacedRow
rows_of_period period from to = placed_rows sheet_0 issuer_1 corrected_world.journals period (from ∷ []) (to ∷ [])

abbrev place_of_reading : Position
place_of_reading = record { agent = 1; seq = 1; index = 0 }

new_in_the_first : map {B = Position × Option (List ℕ)} (λ x. (x.place, x.row.charge_class)) (rows_of_period 0 0 1) ≡ (place_of_reading, None) ∷ []
new_in_the_first =
    subst
    (λ (h : Holding). map {B = Position × Option (List ℕ)} (λ x. (x.place, x.row.charge_class)) (placed_rows sheet_0 issuer_1 h 0 (0 ∷ []) (1 ∷ [])) ≡ (place_of_reading, None) ∷ [])
    (ap (λ t. t.2) (sym correction_tells))
    (unfold days_from_civil day_count days_of_years days_of_months worth_of decimals_of digits in refl)

corrected_in_the_second : map {B = Position × Option (List ℕ)} (λ x. (x.place, x.row.charge_class)) (rows_of_period 1 1 2) ≡ (place_of_reading, Some (codes "Correction")) ∷ []
corrected_in_the_second =
    subst
    (λ (h : Holding). map {B = Position × Option (List ℕ)} (λ x. (x.place, x.row.charge_class)) (placed_rows sheet_0 issuer_1 h 1 (1 ∷ []) (2 ∷ [])) ≡ (place_of_reading, Some (codes "Correction")) ∷ [])
    (ap (λ t. t.2) (sym correction_tells))
    (unfold days_from_civil day_count days_of_years days_of_months worth_of decimals_of digits in refl)
