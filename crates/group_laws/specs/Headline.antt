-- What holds after every run of a group, whatever is lost, repeated, reordered or restarted: the chosen cuts are one growing
-- list, each export is of one of them and the one before it (zero before the first), and a reading is charged as new in one row
-- of one period: in just one, where a chosen cut reaches it.
use Rattle.std.specs.Prelude.{◌≡◌, ◌↔◌, ℕ, ◌+◌, ◌<◌, ◌≤◌, List, ◌++◌, length, Some, None, Ok, slice_get}
use Rattle.std.specs.List.{Contains}
use Rattle.metering_model.specs.Limits.{most_periods}
use Rattle.metering_model.specs.Batch.{Batch, Reading}
use Rattle.metering_model.specs.Sheet.{Sheet, Issuer}
use Rattle.metering_model.specs.Cut.{Cut, IsGrowing, last_of}
use Rattle.metering_model.specs.Holding.{Position, held, up_to, reading_at}
use Rattle.metering_model.specs.JournalRules.{MeetsJournalRules, next_seq}
use Rattle.metering_model.specs.Front.{AreDueBetween}
use Rattle.metering_model.specs.Rows.{PlacedRow, placed_rows, rows}
use Rattle.metering_model.specs.File.{file}
use Rattle.metering_model.specs.World.{World, Node, Offer, Event, Journal, Export, Snapshot, Reply, Journaled, Exported, node_count, voter_count}
use Rattle.metering_model.specs.Step.{batch_of, cut_before}
use Rattle.metering_model.specs.Chosen.{IsChosen}
use Rattle.metering_model.specs.Transcript.{file_of}

-- the second list is the first one, and perhaps goes on
abbrev pub IsPrefixOf : {A : Type 0} → List A → List A → Type 0
IsPrefixOf {A} xs ys = (rest : List A) × (xs ++ rest ≡ ys)

-- There are as many replies as events. An export is of the period that was asked for, and the journals have just the batches
-- whose reply was `Journaled`. What other replies there are, `step` alone says.
pub record AreAnswers (events : List Event) (replies : List Reply) (w : World) : Type 0 where
  pub one_each : length replies ≡ length events
  pub asked : (k : ℕ) (s : Snapshot) → slice_get replies k ≡ Some (Exported s) → (node : ℕ) × (slice_get events k ≡ Some (Export node s.period))
  pub kept : (k packet : ℕ) (offer : Offer) → slice_get events k ≡ Some (Journal offer) → slice_get replies k ≡ Some (Journaled packet) →
      (b : Batch) × (batch_of offer ≡ Ok b) × (held w.journals b.agent b.seq ≡ Some b)
  pub only : (agent seq : ℕ) (b : Batch) → held w.journals agent seq ≡ Some b →
      (k : ℕ) × (packet : ℕ) × (offer : Offer) × (slice_get events k ≡ Some (Journal offer)) × (slice_get replies k ≡ Some (Journaled packet)) × (batch_of offer ≡ Ok b)

-- what Paxos promises: two cuts that are chosen for one period are the same
abbrev pub AtMostOneIsChosen : World → Type 0
AtMostOneIsChosen w = (period : ℕ) (c d : Cut) → IsChosen w period c → IsChosen w period d → c ≡ d

-- The list's entry at a period is the cut that a majority chose for it, whether or not a node has learned it yet, and a period
-- past the list's end has none. What each node has learned is a prefix of the list. The journals reach up to each cut, and
-- their batches between it and the one before are due for its period.
pub record AreTheCuts (w : World) (cuts : List Cut) : Type 0 where
  pub chosen : (period : ℕ) (cut : Cut) → (slice_get cuts period ≡ Some cut) ↔ IsChosen w period cut
  pub learned : (n : Node) → Contains w.nodes n → IsPrefixOf n.kept.learned cuts
  pub in_range : length cuts ≤ most_periods
  pub growing : IsGrowing w.agents cuts
  pub journaled : (period : ℕ) (cut : Cut) → slice_get cuts period ≡ Some cut → (agent : ℕ) → last_of cut agent < next_seq w.journals agent
  pub due : (period : ℕ) (cut : Cut) → slice_get cuts period ≡ Some cut → AreDueBetween w.sheet.base period w.journals (cut_before w.agents cuts period) cut

-- The snapshot is of its period's cut and the one before it, with the world's sheet and issuer and just the journals' batches
-- up to its cut, which meet the rules; and its file has the rows that the journals have between the two.
pub record IsExport (w : World) (cuts : List Cut) (s : Snapshot) : Type 0 where
  pub from : s.from ≡ cut_before w.agents cuts s.period
  pub to : slice_get cuts s.period ≡ Some s.to
  pub sheet : s.sheet ≡ w.sheet
  pub issuer : s.issuer ≡ w.issuer
  pub batches : s.batches ≡ up_to s.to w.journals
  pub rules : MeetsJournalRules s.sheet s.batches
  pub file : file_of s ≡ file (rows w.sheet w.issuer w.journals s.period s.from s.to)

-- the period's row at this index has no ChargeClass: it charges its reading as new
pub record IsNewIn (w : World) (cuts : List Cut) (period index : ℕ) (x : PlacedRow) : Type 0 where
  pub to : Cut
  pub cut : slice_get cuts period ≡ Some to
  pub row : slice_get (placed_rows w.sheet w.issuer w.journals period (cut_before w.agents cuts period) to) index ≡ Some x
  pub new : x.row.charge_class ≡ None

-- No batch is charged as new in two periods: it lies between the two cuts of at most one. No reading is new in two rows, be
-- they of one period or of two, and each reading up to a cut of the list is new in one, of that cut's period or an earlier
-- one.
pub record AreChargedOnce (w : World) (cuts : List Cut) : Type 0 where
  pub apart : (p q : ℕ) (c d : Cut) (agent seq : ℕ) → slice_get cuts p ≡ Some c → slice_get cuts q ≡ Some d →
      last_of (cut_before w.agents cuts p) agent < seq → seq ≤ last_of c agent →
      last_of (cut_before w.agents cuts q) agent < seq → seq ≤ last_of d agent → p ≡ q
  pub at_most : (p q k l : ℕ) (x y : PlacedRow) → IsNewIn w cuts p k x → IsNewIn w cuts q l y → x.place ≡ y.place → (p ≡ q) × (k ≡ l)
  pub at_least : (period : ℕ) (cut : Cut) (at : Position) (r : Reading) → slice_get cuts period ≡ Some cut → at.seq ≤ last_of cut at.agent →
      reading_at w.journals at ≡ Some r → (p : ℕ) × (p ≤ period) × (k : ℕ) × (x : PlacedRow) × IsNewIn w cuts p k x × (x.place ≡ at)

-- The headline: after a run that gave these replies, and led from the opening world to this one.
pub record HoldsAfter (voters observers agents : ℕ) (sheet : Sheet) (issuer : Issuer) (events : List Event) (replies : List Reply) (w : World) : Type 0 where
  pub answers : AreAnswers events replies w
  pub nodes_kept : node_count w ≡ voters + observers
  pub voters_kept : voter_count w ≡ voters
  pub agents_kept : w.agents ≡ agents
  pub sheet_kept : w.sheet ≡ sheet
  pub issuer_kept : w.issuer ≡ issuer
  pub rules : MeetsJournalRules w.sheet w.journals
  pub one : AtMostOneIsChosen w
  pub cuts : List Cut
  pub are_the_cuts : AreTheCuts w cuts
  pub exports : (s : Snapshot) → Contains replies (Exported s) → IsExport w cuts s
  pub one_export : (s t : Snapshot) → Contains replies (Exported s) → Contains replies (Exported t) → s.period ≡ t.period → s ≡ t
  pub charged_once : AreChargedOnce w cuts
