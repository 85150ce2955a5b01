-- Receipts agree: what workers bring back is just what stands in the history, and each of them did what its plan asks.
use Rattle.std.specs.Prelude.{◌≡◌, ℕ, ◌+◌, ◌-◌, ◌≤◌, ◌==◌, ◌&&◌, nat_lt, nat_le, if◌then◌else◌, Bool, true, false, List, [], ◌∷◌, length, map, count_by, Some, slice_get}
use Rattle.metering_model.specs.declared.Worker.{Worker}
use Rattle.metering_model.specs.declared.Worker.TheVariants.{Agent, Node}
use Rattle.metering_model.specs.World.{Event, Journal, Deliver, Start, Restart, Export, Keep, Revive, Reply, Exported, offer_of, opening}
use Rattle.metering_model.specs.History.{Entry}
use Rattle.node_book.specs.Books.{Book, Told, Log, Plan, node_total, opened, file_in}

abbrev pub is_same_worker : Worker → Worker → Bool
is_same_worker (Agent a) (Agent b) = a == b
is_same_worker (Agent a) (Node j) = false
is_same_worker (Node i) (Agent b) = false
is_same_worker (Node i) (Node j) = i == j

-- what a worker's own entries give, in order; each is read with its place in the history
abbrev pub from_own : {A : Type 0} → (ℕ → Entry → A) → Worker → ℕ → List Entry → List A
from_own read who place [] = []
from_own read who place (e ∷ es) = if is_same_worker e.who who then read place e ∷ from_own read who (place + 1) es else from_own read who (place + 1) es

-- a worker's own entries, each once and in order: their places, and their replies
abbrev pub told_to : Worker → List Entry → List Told
told_to who history = from_own (λ place e. record { index = place; reply = e.reply }) who 0 history

-- the events of a worker's own entries, in order
abbrev pub events_by : Worker → List Entry → List Event
events_by who history = from_own (λ place e. e.event) who 0 history

-- the worker whose log stands at a place: first come the agents, numbered from 1, and then the nodes, numbered from 0
abbrev pub worker_at : (agents place : ℕ) → Worker
worker_at agents place = if nat_lt place agents then Agent (place + 1) else Node (place - agents)

-- the event is one that a node brings about at itself
abbrev pub is_event_of_node : ℕ → Event → Bool
is_event_of_node i (Journal offer) = false
is_event_of_node i (Deliver packet node) = node == i
is_event_of_node i (Start node) = node == i
is_event_of_node i (Restart node) = false
is_event_of_node i (Export node period) = node == i
is_event_of_node i (Keep node) = false
is_event_of_node i (Revive node offer) = false

-- the worker is one of the plan's; a node, voter or observer, delivers, starts and exports at itself, and does nothing else
abbrev pub may_do : Plan → Worker → Event → Bool
may_do plan (Agent a) event = nat_le 1 a && nat_le a (length plan.journals)
may_do plan (Node i) event = nat_lt i (node_total plan) && is_event_of_node i event

abbrev pub is_export_of : ℕ → Reply → Bool
is_export_of period (Exported s) = s.period == period
is_export_of period _ = false

-- one export of each period below `periods`, and no other
abbrev pub ExportsEach : ℕ → List Told → Type 0
ExportsEach periods told = (period : ℕ) → count_by (λ t. is_export_of period t.reply) told ≡ (if nat_lt period periods then 1 else 0)

-- The log at a place is that of the worker there, and has just what this worker was told. An agent offered each of its
-- texts to the journals, in order, and did nothing else; a node exported each period once.
pub record IsLogAt (plan : Plan) (history : List Entry) (place : ℕ) (log : Log) : Type 0 where
  pub who : log.who ≡ worker_at (length plan.journals) place
  pub told : told_to log.who history ≡ log.told
  pub offered : (texts : List (List ℕ)) → slice_get plan.journals place ≡ Some texts → events_by log.who history ≡ map (λ text. Journal (offer_of text)) texts
  pub exported : length plan.journals ≤ place → ExportsEach plan.periods log.told

-- The book was opened for the plan's group. There is a log of each worker, and each entry is of one of them.
pub record Agree (book : Book) (plan : Plan) (logs : List Log) : Type 0 where
  pub opened_for : opened book ≡ opening plan.voters plan.observers (length plan.journals) plan.sheet plan.issuer
  pub one_each : length logs ≡ length plan.journals + node_total plan
  pub each_log : (place : ℕ) (log : Log) → slice_get logs place ≡ Some log → IsLogAt plan book.history place log
  pub each_entry : (index : ℕ) (e : Entry) → slice_get book.history index ≡ Some e → may_do plan e.who e.event ≡ true

-- a worker was told this
abbrev pub IsToldIn : List Log → Told → Type 0
IsToldIn logs t = (place : ℕ) × (log : Log) × (index : ℕ) × (slice_get logs place ≡ Some log) × (slice_get log.told index ≡ Some t)

-- all files of one period are the same bytes, whoever rendered them
abbrev pub FilesAgree : List Log → Type 0
FilesAgree logs = (t u : Told) (period : ℕ) → IsToldIn logs t → IsToldIn logs u → is_export_of period t.reply ≡ true → is_export_of period u.reply ≡ true → file_in t.reply ≡ file_in u.reply
