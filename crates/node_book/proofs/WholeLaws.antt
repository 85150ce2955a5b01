-- What is found of a book's replies and of its last file is so of both.
use Rattle.std.proofs.Common.{◌↔◌, ℕ, Bool, IsTrue, false, Result, Ok, Err, IfOk}
use Rattle.group_core.specs.Words.{ChargesAll}
use Rattle.node_book.specs.Books.{Book}
use Rattle.node_book.specs.Whole.{IsNeverFull, LeavesNothingOut}

pub with_room : {E : Type 0} (b : Book) (period : ℕ) (found : Result Bool E) → IsNeverFull b.history → IfOk found (λ all. IsTrue all ↔ ChargesAll b.world 0 period)
    → IfOk found (λ is. IsTrue is ↔ LeavesNothingOut b period)
with_room b period (Ok all) room charged = (λ yes. record { room = room; charged = charged.0 yes }, λ (l : LeavesNothingOut b period). charged.1 l.charged)
with_room b period (Err e) room charged = tt

pub without_room : (b : Book) (period : ℕ) → (IsNeverFull b.history → ⊥) → IsTrue false ↔ LeavesNothingOut b period
without_room b period full = (λ yes. absurd (cc), λ (l : LeavesNothingOut b period). absurd (full l.room))
