-- What a run leaves out: nothing that was offered and is due by its last period.
use Rattle.std.specs.Prelude.{◌≡◌, ℕ, Bool, true, false, List, Some, slice_get}
use Rattle.metering_model.specs.declared.Refusal.TheVariants.{WorldFull}
use Rattle.metering_model.specs.World.{Reply, Refused}
use Rattle.metering_model.specs.History.{Entry}
use Rattle.group_core.specs.Words.{ChargesAll}
use Rattle.node_book.specs.Books.{Book}

-- the reply is no refusal for a full world
abbrev pub has_room : Reply → Bool
has_room (Refused WorldFull) = false
has_room _ = true

-- Nothing was refused for a full world: so whether a text was journaled hangs on its agent's texts alone.
abbrev pub IsNeverFull : List Entry → Type 0
IsNeverFull history = (index : ℕ) (e : Entry) → slice_get history index ≡ Some e → has_room e.reply ≡ true

-- Nothing was refused for a full world; and node 0 exports that period, from the cut before, up to each agent's first batch that is
-- not journaled or not due.
pub record LeavesNothingOut (b : Book) (period : ℕ) : Type 0 where
  pub room : IsNeverFull b.history
  pub charged : ChargesAll b.world 0 period
