-- What a node answers to a packet, by the test whether it is one of its group.
use Rattle.std.proofs.Common.{◌≡◌, ℕ, Bool, true, false, if◌then◌else◌, List, sym, ap, ◌∙◌}
use Rattle.std.proofs.lemmas.Bool.{and_parts}
use Rattle.metering_model.specs.BatchReading.{is_same}
use Rattle.metering_model.specs.Deliveries.{Handled, handled}
use Rattle.metering_model.specs.World.{Node, Packet}
use Rattle.process_laws.specs.LocalSteps.{Foreign, Group, NodeDone, after_handling, bare_world, is_of_group, is_packet_of, refusing, taking, unmoved}

module _ (g asked : Group) (name : List ℕ) (p : Packet) (t : Bool) (same : asked ≡ g) (is : t ≡ is_of_group asked name p) where
  of_group : is_of_group g name p ≡ t
  of_group = sym (ap (λ x. is_of_group x name p) same) ∙ sym is

  pub packet_of_group : t ≡ true → is_packet_of g.voters g.agents p ≡ true
  packet_of_group own = (and_parts (is_same name g.name) (is_packet_of g.voters g.agents p) (of_group ∙ own)).1

  module _ (i : ℕ) (n : Node) where
    abbrev by_test : Bool → NodeDone
    by_test b = if b then after_handling (handled (bare_world g) i n p) else unmoved (refusing Foreign) n

    pub foreign_told : t ≡ false → taking g i n name p ≡ unmoved (refusing Foreign) n
    foreign_told other = ap by_test (of_group ∙ other)

    pub taken_told : (h : Handled) → t ≡ true → handled (bare_world g) i n p ≡ h → taking g i n name p ≡ after_handling h
    taken_told h own handles = ap by_test (of_group ∙ own) ∙ ap after_handling handles
