use Rattle.std.proofs.Common.{◌≡◌, ◌≤◌, length, map}
use Rattle.metering_model.specs.World.{Journal, offer_of}
use Rattle.node_book.specs.Kept.{entry_of}
use Rattle.node_book.specs.Agreement.{events_by}
use Rattle.node_book.proofs.Own.{IsLeft}
use Rattle.node_book.proofs.agreeing.has_offered.Given as goal

-- What is compared so far agrees: the lists are the same just where what is left of them is.
abbrev pub invariant-loop-place : goal.invariant-loop-place
invariant-loop-place l = record {
  within : l.next ≤ length l.texts;
  left : IsLeft (λ place e. e.event) l.who (events_by l.who (map entry_of l.history) ≡ map (λ text. Journal (offer_of text.items)) l.texts) (map entry_of l.history) (map (λ text. Journal (offer_of text.items)) l.texts) l.place l.next;
}
