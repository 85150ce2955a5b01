-- The headline of the calls of a world: what holds of the world, of the replies of a call, and from before the call to after
-- it. The words underneath are those of the headline over every list of events.
use Rattle.std.specs.Prelude.{◌≡◌, ℕ, true, ◌⊎◌, List, length, Some, Ok, slice_get}
use Rattle.std.specs.List.{Contains}
use Rattle.metering_model.specs.Batch.{Batch}
use Rattle.metering_model.specs.Cut.{Cut}
use Rattle.metering_model.specs.Holding.{IsPartOf, held}
use Rattle.metering_model.specs.Chosen.{IsChosen}
use Rattle.metering_model.specs.World.{World, Node, Offer, Event, Journal, Export, Snapshot, Reply, Journaled, Exported, node_count, voter_count}
use Rattle.metering_model.specs.Step.{batch_of}
use Rattle.group_state.specs.Words.{is_exported, is_kept_text, is_refused}
use Rattle.group_laws.specs.Headline.{AtMostOneIsChosen, IsPrefixOf, AreTheCuts, IsExport, AreChargedOnce}

-- The chosen cuts are one growing list, within the journals and due, of which each node has learned a prefix. There is just
-- one such list.
pub record HasOneList (w : World) : Type 0 where
  pub cuts : List Cut
  pub are_the_cuts : AreTheCuts w cuts
  pub no_other : (others : List Cut) → AreTheCuts w others → others ≡ cuts

-- Whatever a node has learned of a period was chosen for it.
pub record LearnsWhatIsChosen (w : World) : Type 0 where
  pub chosen : (n : Node) (period : ℕ) (cut : Cut) → Contains w.nodes n → slice_get n.kept.learned period ≡ Some cut → IsChosen w period cut

-- No batch is charged as new in two periods, no reading in two rows, and each reading up to a chosen cut is new in one.
pub record ChargesOnce (w : World) : Type 0 where
  pub cuts : List Cut
  pub are_the_cuts : AreTheCuts w cuts
  pub charged_once : AreChargedOnce w cuts

-- The snapshot is of a chosen cut and of the one before it (zero before the first), with the world's sheet and issuer and
-- just the journals' batches up to the cut.
pub record IsExportOf (w : World) (s : Snapshot) : Type 0 where
  pub cuts : List Cut
  pub are_the_cuts : AreTheCuts w cuts
  pub is_export : IsExport w cuts s

-- each export among the replies is one of this world
abbrev pub AreExportsOf : World → List Reply → Type 0
AreExportsOf w replies = (s : Snapshot) → Contains replies (Exported s) → IsExportOf w s

-- Two exports of one period among the replies are the same, and each is the same as whatever is an export of this world: so
-- as one of an earlier call, by `ExportsStay`.
pub record ExportsAgree (w : World) (replies : List Reply) : Type 0 where
  pub here : (s t : Snapshot) → Contains replies (Exported s) → Contains replies (Exported t) → s.period ≡ t.period → s ≡ t
  pub with_earlier : (s t : Snapshot) → Contains replies (Exported s) → IsExportOf w t → s.period ≡ t.period → s ≡ t

-- The later world is of the same group.
pub record IsSameGroup (before after : World) : Type 0 where
  pub nodes : node_count after ≡ node_count before
  pub voters : voter_count after ≡ voter_count before
  pub agents : after.agents ≡ before.agents
  pub sheet : after.sheet ≡ before.sheet
  pub issuer : after.issuer ≡ before.issuer

-- A cut that was chosen stays, at its period: more are only added after it.
abbrev pub ListGrows : World → World → Type 0
ListGrows before after = (cuts later : List Cut) → AreTheCuts before cuts → AreTheCuts after later → IsPrefixOf cuts later

-- What was an export is one of the later world too.
abbrev pub ExportsStay : World → World → Type 0
ExportsStay before after = (s : Snapshot) → IsExportOf before s → IsExportOf after s

-- A later world of the same group: to the list of chosen cuts more may have been added, and exports are exports still.
pub record IsLater (before after : World) : Type 0 where
  pub group : IsSameGroup before after
  pub grows : ListGrows before after
  pub stay : ExportsStay before after

-- The headline of a call, of the world after it and of its replies: a period has one chosen cut at most, what a node has learned
-- was chosen, the chosen cuts are one list, nothing is charged as new twice, and the exports are of that list.
pub record HasHeadline (w : World) (replies : List Reply) : Type 0 where
  pub one_cut : AtMostOneIsChosen w
  pub learned : LearnsWhatIsChosen w
  pub cuts : HasOneList w
  pub charged_once : ChargesOnce w
  pub exports : AreExportsOf w replies
  pub agree : ExportsAgree w replies

-- The world is as it was where the reply is a refusal, an export or a kept text.
pub record IsUnchangedAt (reply : Reply) (before after : World) : Type 0 where
  pub refused : is_refused reply ≡ true → after ≡ before
  pub exported : is_exported reply ≡ true → after ≡ before
  pub kept : is_kept_text reply ≡ true → after ≡ before

-- one of the events handed in the batch, and was answered `Journaled`
abbrev pub IsJournaledBy : List Event → List Reply → Batch → Type 0
IsJournaledBy events replies b =
    (k : ℕ) × (packet : ℕ) × (offer : Offer) × (slice_get events k ≡ Some (Journal offer)) × (slice_get replies k ≡ Some (Journaled packet)) × (batch_of offer ≡ Ok b)

-- Each event has its own reply. An export is of the period that was asked for, and the batches whose reply was `Journaled`,
-- and no others, came to the journals, which keep what they had.
pub record AnswersEach (before : World) (events : List Event) (replies : List Reply) (after : World) : Type 0 where
  pub one_each : length replies ≡ length events
  pub asked : (k : ℕ) (s : Snapshot) → slice_get replies k ≡ Some (Exported s) → (node : ℕ) × (slice_get events k ≡ Some (Export node s.period))
  pub kept : (k packet : ℕ) (offer : Offer) → slice_get events k ≡ Some (Journal offer) → slice_get replies k ≡ Some (Journaled packet) →
      (b : Batch) × (batch_of offer ≡ Ok b) × (held after.journals b.agent b.seq ≡ Some b)
  pub had : IsPartOf before.journals after.journals
  pub only : (agent seq : ℕ) (b : Batch) → held after.journals agent seq ≡ Some b → (held before.journals agent seq ≡ Some b) ⊎ IsJournaledBy events replies b
