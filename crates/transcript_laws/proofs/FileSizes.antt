-- How many rows a group's file has at most: 1,000 for each batch of the journals, and they have at most 1,000,000.
use Rattle.std.proofs.Common.{◌≡◌, ℕ, suc, ◌+◌, ◌*◌, ◌≤◌, List, [], ◌∷◌, length, Option, Some, None, refl, ap, ◌∙◌, arith, length-append}
use Rattle.std.specs.Prelude.{All}
use Rattle.std.specs.List.{filter_map, cons_option, enumerate_from}
use Rattle.std.proofs.lemmas.Bool.{cond_both}
use Rattle.std.proofs.lemmas.List.{length-map}
use Rattle.std.proofs.lemmas.List.Elements.{All-head, All-tail}
use Rattle.metering_model.specs.Batch.{Batch, IsWellFormed}
use Rattle.metering_model.specs.Cut.{Cut}
use Rattle.metering_model.specs.Sheet.{Sheet, Issuer}
use Rattle.metering_model.specs.Holding.{Holding, comes_before, put, up_to, placed, records_in_order}
use Rattle.metering_model.specs.Rows.{PlacedRow, placed_row, placed_rows, rows}
use Rattle.metering_model.specs.Limits.{most_packets}
use Rattle.metering_model.specs.World.{World, Node, Packet, CarriesBatch, Event, wake, opening}
use Rattle.metering_model.specs.Deliveries.{handled}
use Rattle.metering_model.specs.Step.{play}
use Rattle.metering_model.proofs.HoldingLaws.{up_to_cases}
use Rattle.group_laws.proofs.StepCases.{after, started, start_packet, IsKeptBySteps}
use Rattle.group_laws.proofs.Forms.{HasForms-opening, play_kept}
use Rattle.group_laws.proofs.Limits.{keeps_limits}

-- ---- batches: each was sent in a packet of its own

put_adds : (h : Holding) (b : Batch) → length (put h b) ≤ length h + 1
put_adds [] b = omega arith
put_adds (c ∷ h) b =
    let rest = put_adds h b in
    cond_both (comes_before b c) (b ∷ c ∷ h) _ (λ k. length k ≤ length (c ∷ h) + 1) (λ _. omega arith)
    (λ _. cond_both (comes_before c b) (c ∷ put h b) (c ∷ h) (λ k. length k ≤ length (c ∷ h) + 1) (λ _. omega (arith, rest)) (λ _. omega arith))

record HasPackets (w : World) : Type 0 where
  pub each : length w.journals ≤ length w.packets

packets_after : (w : World) (i : ℕ) (n : Node) (o : Option Packet) → HasPackets w → HasPackets (after w i n o)
packets_after w i n None h = record { each = h.each }
packets_after w i n (Some q) h = let old = h.each in let more = length-append w.packets (q ∷ []) in record { each = omega (arith, old, more) }

HasPackets-steps : IsKeptBySteps HasPackets
HasPackets-steps = record {
  journals = λ w b h next.
      let old = h.each in
      let one = put_adds w.journals b in
      let more = length-append w.packets (CarriesBatch b ∷ []) in
      record { each = omega (arith, old, one, more) };
  delivers = λ w i n q h may. packets_after w i (handled w i n q).node (handled w i n q).sends h;
  starts = λ w i n h may. packets_after w i (started w i n) (Some (start_packet w i n)) h;
  restarts = λ w i n h found. packets_after w i (wake n.kept) None h;
}

pub few_batches : (voters observers agents : ℕ) (sheet : Sheet) (issuer : Issuer) (events : List Event) → length (play (opening voters observers agents sheet issuer) events).1.journals ≤ 1_000_000
few_batches voters observers agents sheet issuer events =
    let room = (keeps_limits most_packets voters observers agents sheet issuer events).fits in
    let each = (play_kept HasPackets HasPackets-steps events (opening voters observers agents sheet issuer) (HasForms-opening most_packets voters observers agents sheet issuer) (record { each = omega arith })).each in
    omega (arith, room, each)

-- ---- records and rows

length-enumerate : {A : Type 0} (n : ℕ) (xs : List A) → length (enumerate_from n xs) ≡ length xs
length-enumerate n [] = refl
length-enumerate n (x ∷ xs) = ap suc (length-enumerate (n + 1) xs)

length-placed : (b : Batch) → length (placed b) ≡ length b.records
length-placed b = length-map (enumerate_from 0 b.records) _ ∙ length-enumerate 0 b.records

records_few : (cut : Cut) (h : Holding) → All IsWellFormed h → length (records_in_order (up_to cut h)) ≤ 1_000 * length h
records_few cut [] all = omega arith
records_few cut (b ∷ h) all =
    let rest = records_few cut h (All-tail IsWellFormed b h all) in
    let count = (All-head IsWellFormed b h all).count in
    let here = length-placed b in
    let both = length-append (placed b) (records_in_order (up_to cut h)) in
    up_to_cases (λ k. length (records_in_order k) ≤ 1_000 * length (b ∷ h)) cut b h
    (λ _. omega (arith, rest, count, here, both)) (λ _. omega (arith, rest))

length-filter_map : {A B : Type 0} (g : A → Option B) (xs : List A) → length (filter_map g xs) ≤ length xs
length-filter_map {B = B} g [] = omega arith
length-filter_map {B = B} g (x ∷ xs) = at (g x) (length-filter_map g xs)
  where
    at : (o : Option B) → length (filter_map g xs) ≤ length xs → length (cons_option o (filter_map g xs)) ≤ length (x ∷ xs)
    at None h = omega (arith, h)
    at (Some y) h = omega (arith, h)

pub few_rows : (sheet : Sheet) (issuer : Issuer) (h : Holding) (period : ℕ) (from to : Cut) → All IsWellFormed h → length (rows sheet issuer h period from to) ≤ 1_000 * length h
few_rows sheet issuer h period from to all =
    let placed_few = length-filter_map (placed_row sheet issuer h period from to) (records_in_order (up_to to h)) in
    let same = length-map (placed_rows sheet issuer h period from to) (λ (x : PlacedRow). x.row) in
    let few = records_few to h all in
    omega (arith, placed_few, same, few)
