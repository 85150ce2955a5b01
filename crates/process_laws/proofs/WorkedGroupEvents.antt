-- The events that the worked history of a group comes to: which event each act is, and the acts that are none.
use Rattle.std.proofs.Common.{arith, inl}
use Rattle.std.specs.Prelude.{◌≡◌, ◌≢◌, List, [], ◌∷◌, take, Option, Some, None, true, false, refl}
use Rattle.std.specs.List.{Contains, list_all}
use Rattle.std.specs.Fmt.{digits}
use Rattle.std.proofs.Math.Dec.{lit<}
use Rattle.std.proofs.lemmas.Bool.{both_ways}
use Rattle.std.proofs.lemmas.List.Elements.{All-contains}
use Rattle.std.proofs.lemmas.List.Sums.{AllPass-from_list_all}
use Rattle.jiff_core.specs.Calendar.{days_from_civil, day_count, days_of_years, days_of_months}
use Rattle.metering_model.specs.NumberText.{worth_of, decimals_of}
use Rattle.metering_model.specs.World.{Packet, Decided, Event, Journal, Deliver, Start, Restart, Export, Good}
use Rattle.process_laws.specs.LocalSteps.{is_packet_of}
use Rattle.process_laws.specs.Histories.{begun, answers, AreMatched, opened}
use Rattle.process_laws.proofs.EachAct.{◌⨾◌, AreMatchedEach, so_are_matched}
use Rattle.process_laws.proofs.WorkedGroup.{three, text_of_1, text_of_2, batch_of_1, batch_of_2, acts, all_sent}

-- Without one an agent goes on, is offered another's batch, a packet with numbers that the group has not is refused, and a batch is sent once more.
abbrev each_event : List (Option Event)
each_event =
    None ∷ Some (Journal (Good text_of_1)) ∷ None ∷ Some (Journal (Good text_of_1)) ∷ None ∷ Some (Journal (Good text_of_2))
    ∷ Some (Deliver 0 0) ∷ Some (Deliver 1 0) ∷ Some (Deliver 0 2) ∷ Some (Start 0) ∷ Some (Deliver 2 0) ∷ Some (Deliver 2 1)
    ∷ Some (Deliver 3 0) ∷ Some (Deliver 3 0) ∷ Some (Restart 0) ∷ Some (Deliver 4 0)
    ∷ Some (Start 2) ∷ Some (Start 0) ∷ Some (Deliver 5 0) ∷ Some (Deliver 5 1) ∷ Some (Deliver 6 0) ∷ Some (Deliver 7 0) ∷ None
    ∷ Some (Deliver 8 0) ∷ Some (Deliver 8 1)
    ∷ Some (Deliver 9 2) ∷ Some (Deliver 10 2) ∷ Some (Export 2 0) ∷ None ∷ Some (Deliver 1 2) ∷ Some (Export 2 0)
    ∷ Some (Deliver 9 0) ∷ Some (Deliver 10 0) ∷ Some (Export 0 0) ∷ []

another_agent : batch_of_2.agent ≢ 1
another_agent same = absurd (omega (arith, same))

-- a packet that the group has not is none of those that it has
none_of_them : (ps : List Packet) (p : Packet) → list_all (is_packet_of 2 2) ps ≡ true → is_packet_of 2 2 p ≡ false → Contains ps p → ⊥
none_of_them ps p of_group is_not has =
    both_ways (is_packet_of 2 2 p) is_not (All-contains (λ q. is_packet_of 2 2 q ≡ true) ps p (AllPass-from_list_all (is_packet_of 2 2) ps of_group) has)

each_is_matched : AreMatchedEach three (opened three 12) acts (answers three (begun three) acts) each_event
unfolding days_from_civil day_count days_of_years days_of_months worth_of decimals_of digits
each_is_matched =
    refl ⨾
    (refl, (batch_of_1, refl, refl)) ⨾
    refl ⨾
    (refl, refl) ⨾
    (batch_of_2, refl, another_agent, refl) ⨾
    (refl, (batch_of_2, refl, refl)) ⨾
    ((0, refl, refl), (refl, tt)) ⨾
    ((1, refl, refl), (refl, tt)) ⨾
    ((0, refl, refl), (refl, tt)) ⨾
    (refl, (refl, refl)) ⨾
    ((2, refl, refl), (refl, refl)) ⨾
    ((2, refl, refl), (refl, refl)) ⨾
    ((3, refl, refl), (refl, tt)) ⨾
    ((3, refl, refl), (refl, tt)) ⨾
    (refl, (_, refl, refl)) ⨾
    ((4, refl, refl), (refl, tt)) ⨾
    (refl, refl) ⨾
    (refl, (refl, refl)) ⨾
    ((5, refl, refl), (refl, refl)) ⨾
    ((5, refl, refl), (refl, refl)) ⨾
    ((6, refl, refl), (refl, tt)) ⨾
    ((7, refl, refl), (refl, refl)) ⨾
    (λ same. none_of_them (take 9 all_sent) (Decided 0 (9 ∷ [])) refl refl, refl) ⨾
    ((8, refl, refl), (refl, refl)) ⨾
    ((8, refl, refl), (refl, refl)) ⨾
    ((9, refl, refl), (refl, tt)) ⨾
    ((10, refl, refl), (refl, tt)) ⨾
    (refl, refl) ⨾
    (_, refl, inl (batch_of_2, refl, refl, (1, lit< tt, refl))) ⨾
    ((1, refl, refl), (refl, tt)) ⨾
    (refl, refl) ⨾
    ((9, refl, refl), (refl, tt)) ⨾
    ((10, refl, refl), (refl, tt)) ⨾
    (refl, refl) ⨾ tt

-- the events in turn, by packets' numbers
abbrev events : List Event
events =
    Journal (Good text_of_1) ∷ Journal (Good text_of_1) ∷ Journal (Good text_of_2)
    ∷ Deliver 0 0 ∷ Deliver 1 0 ∷ Deliver 0 2 ∷ Start 0 ∷ Deliver 2 0 ∷ Deliver 2 1 ∷ Deliver 3 0 ∷ Deliver 3 0 ∷ Restart 0 ∷ Deliver 4 0
    ∷ Start 2 ∷ Start 0 ∷ Deliver 5 0 ∷ Deliver 5 1 ∷ Deliver 6 0 ∷ Deliver 7 0 ∷ Deliver 8 0 ∷ Deliver 8 1
    ∷ Deliver 9 2 ∷ Deliver 10 2 ∷ Export 2 0 ∷ Deliver 1 2 ∷ Export 2 0 ∷ Deliver 9 0 ∷ Deliver 10 0 ∷ Export 0 0 ∷ []

are_matched : AreMatched three (opened three 12) acts (answers three (begun three) acts) events
are_matched = so_are_matched three (opened three 12) acts (answers three (begun three) acts) each_event each_is_matched
