use Rattle.std.proofs.Common.{◌≡◌, ◌≤◌, length, map}
use Rattle.node_book.specs.Kept.{entry_of}
use Rattle.node_book.specs.Agreement.{told_to}
use Rattle.node_book.proofs.Own.{IsLeft}
use Rattle.node_book.proofs.agreeing.is_told.Given as goal

-- What is compared so far agrees: the lists are the same just where what is left of them is.
abbrev pub invariant-loop-place : goal.invariant-loop-place
invariant-loop-place l = record {
  within : l.next ≤ length l.done;
  left : IsLeft (λ place e. record { index = place; reply = e.reply }) l.who (told_to l.who (map entry_of l.history) ≡ l.done) (map entry_of l.history) l.done l.place l.next;
}
