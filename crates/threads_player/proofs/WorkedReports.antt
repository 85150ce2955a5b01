-- The report of a small run: which number of it stands where.
use Rattle.std.proofs.Common.{◌≡◌, ℕ, List, [], ◌∷◌, None, Ok, Err, refl, codes}
use Rattle.std.specs.Fmt.{digits}
use Rattle.jiff_core.specs.Calendar.{days_from_civil, day_count, days_of_years, days_of_months}
use Rattle.metering_model.specs.NumberText.{worth_of, decimals_of}
use Rattle.metering_model.specs.declared.Worker.{Worker}
use Rattle.metering_model.specs.declared.Worker.TheVariants.{Agent, Node}
use Rattle.metering_model.specs.declared.Refusal.TheVariants.{NotClosed}
use Rattle.metering_model.specs.BatchReading.{batch_in}
use Rattle.metering_model.specs.Cut.{Cut}
use Rattle.metering_model.specs.Holding.{Holding, put}
use Rattle.metering_model.specs.World.{Event, Journal, Deliver, Export, Reply, Journaled, Delivered, Exported, Refused, offer_of, opening}
use Rattle.metering_model.specs.History.{Entry}
use Rattle.metering_model.specs.Schedule.{lines_text}
use Rattle.metering_model.proofs.Samples.{sheet_0, issuer_1, reading_1}
use Rattle.node_threads.specs.Words.{Told}
use Rattle.node_threads.specs.Runs.{Run}
use Rattle.threads_player.specs.Reports.{report_text}

abbrev batch : List ℕ
batch = lines_text (codes "B1|1|1|1" ∷ reading_1 ∷ [])

abbrev held : Holding
held = elim (batch_in batch) [ Ok b ↦ put [] b | Err fault ↦ [] ]

-- the batch is charged in the first month, and nothing in the second
abbrev exported : (period : ℕ) (from to : Cut) → Reply
exported period from to = Exported (record { period = period; from = from; to = to; batches = held; sheet = sheet_0; issuer = issuer_1 })

abbrev first_month : Reply
first_month = exported 0 (0 ∷ []) (1 ∷ [])

abbrev second_month : Reply
second_month = exported 1 (1 ∷ []) (1 ∷ [])

abbrev entry : Worker → Event → Reply → Entry
entry who event reply = record { who = who; event = event; reply = reply }

abbrev told : ℕ → Reply → Told
told index reply = record { index = index; reply = reply }

-- Two nodes wrote the first month's file, one the second's, and none the third's. One receipt of the six entries is missing, so that
-- entries and receipts are two numbers.
abbrev small_run : Run
small_run = record {
  plan = record { voters = 2; observers = 0; sheet = sheet_0; issuer = issuer_1; journals = (batch ∷ []) ∷ []; periods = 3; turns = 1_000_000 };
  book = record {
    voters = 2;
    observers = 0;
    agents = 1;
    sheet = sheet_0;
    issuer = issuer_1;
    history =
        entry (Agent 1) (Journal (offer_of batch)) (Journaled 0)
        ∷ entry (Node 0) (Deliver 0 0) (Delivered None None)
        ∷ entry (Node 0) (Export 0 0) first_month
        ∷ entry (Node 0) (Export 0 1) second_month
        ∷ entry (Node 1) (Export 1 0) first_month
        ∷ entry (Node 1) (Export 1 1) (Refused (NotClosed 1))
        ∷ [];
    world = opening 2 0 1 sheet_0 issuer_1;
  };
  logs =
      record { who = Agent 1; told = told 0 (Journaled 0) ∷ [] }
      ∷ record { who = Node 0; told = told 2 first_month ∷ told 3 second_month ∷ [] }
      ∷ record { who = Node 1; told = told 4 first_month ∷ told 5 (Refused (NotClosed 1)) ∷ [] }
      ∷ [];
}

a_report : report_text small_run ≡
    lines_text (codes "period 0 lines 2 files 2" ∷ codes "period 1 lines 1 files 1" ∷ codes "period 2 lines 0 files 0" ∷ codes "entries 6 receipts 5" ∷ [])
unfolding days_from_civil day_count days_of_years days_of_months worth_of decimals_of digits
a_report = refl
