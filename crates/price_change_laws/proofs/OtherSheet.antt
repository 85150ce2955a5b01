-- What a node and an agent do by themselves under an older sheet, and what they do under the last one: the same, but for what is refused for want of
-- a price.
use Rattle.std.proofs.Common.{◌≡◌, ℕ, ◌+◌, Bool, true, false, not, List, refl, sym, ap, subst, Option, Some, None, Result, Ok, Err, ok_or, is_some}
use Rattle.std.specs.Prelude.{◌==◌, ◌&&◌, if◌then◌else◌, slice_get, take}
use Rattle.std.proofs.lemmas.Bool.{true≢false}
use Rattle.metering_model.specs.FirstFailure.{◌>>=◌, holds_or}
use Rattle.metering_model.specs.Batch.{Batch}
use Rattle.metering_model.specs.Cut.{Cut, zero_cut}
use Rattle.metering_model.specs.Sheet.{Sheet}
use Rattle.metering_model.specs.Front.{front}
use Rattle.metering_model.specs.Holding.{Holding, held, put, placed, records_in_order, up_to}
use Rattle.metering_model.specs.JournalRules.{next_seq, first_broken}
use Rattle.metering_model.specs.declared.BrokenRule.{BrokenRule}
use Rattle.metering_model.specs.declared.BrokenRule.TheVariants.{BadTarget, Unpriced}
use Rattle.metering_model.specs.declared.Refusal.{Refusal}
use Rattle.metering_model.specs.declared.Refusal.TheVariants.{NotClosed, Missing, NoAgent, WrongSeq}
use Rattle.metering_model.specs.Ballot.{Vote, Attempt, with_promise, has_majority}
use Rattle.metering_model.specs.World.{Packet, CarriesBatch, Prepare, Promise, Accept, Accepted, Decided, Node, World, Snapshot, current_period, last_cut, voter_count}
use Rattle.metering_model.specs.Deliveries.{Handled, silent, sending, if_votes, proposal, after_promise, handled}
use Rattle.metering_model.specs.Step.{batch_of, cut_before, first_missing, started_node, unless_broken, unless_missing}
use Rattle.sheet_laws.proofs.TwoRuns.{priced_broken}
use Rattle.process_laws.specs.LocalSteps.{Group, NodeCommand, TakePacket, BeginBallot, ExportPeriod, TellKept, SendBatch, AgentCommand, JournalBatch}
use Rattle.process_laws.specs.LocalSteps.{SendAgain, TellJournal, OfModel, Foreign, Unfit, Words, HasBegun, HasExported, HasJournaled, HasSent}
use Rattle.process_laws.specs.LocalSteps.{saying, refusing, sending_held, bare_world, is_of_group, are_growing, is_unbroken}
use Rattle.process_laws.specs.LocalSteps.{NodeDone, unmoved, after_handling, taking, next_ballot, beginning, is_fit, exporting, node_does, AgentDone, unmoved_journal, agent_does}
use Rattle.price_change_laws.specs.SheetedHistories.{group_under, lacks_price, answer_under, IsTakenOver}

-- no batch of what is exported breaks a rule
abbrev pub shows_unbroken : Words → Bool
shows_unbroken (HasExported s) = is_unbroken s
shows_unbroken words = true

-- What a node has done under one sheet, and what it does under the last: where it was refused for want of a price, it is as it was, and else it does
-- the same.
pub record NodeGoesAlike (last : Sheet) (n : Node) (d e : NodeDone) : Type 0 where
  pub still : lacks_price d.answer ≡ true → (d.answer.sends ≡ None) × (d.node ≡ n)
  pub same : lacks_price d.answer ≡ false → (e.answer ≡ answer_under last d.answer) × (e.node ≡ d.node)
  pub fit : shows_unbroken d.answer.words ≡ true

pub record AgentGoesAlike (last : Sheet) (journal : Holding) (d e : AgentDone) : Type 0 where
  pub still : lacks_price d.answer ≡ true → (d.answer.sends ≡ None) × (d.journal ≡ journal)
  pub same : lacks_price d.answer ≡ false → (e.answer ≡ answer_under last d.answer) × (e.journal ≡ d.journal)
  pub fit : shows_unbroken d.answer.words ≡ true

never : {A : Type 0} → false ≡ true → A
never t = absurd (true≢false (sym t))

module _ (g : Group) (old : Sheet) (taken : IsTakenOver g.sheet old) where
  abbrev last : Sheet
  last = g.sheet

  abbrev before : Group
  before = group_under old g

  -- ---- a packet: of the sheet only its base month counts

  module _ (i : ℕ) (n : Node) where
    same_proposal : (vote : Option Vote) → proposal (bare_world g) n vote ≡ proposal (bare_world before) n vote
    same_proposal (Some v) = refl
    same_proposal None = ap (λ b. front b n.kept.holding (last_cut g.agents n.kept.learned) (current_period n)) taken.base

    abbrev promised_by : World → (from period ballot : ℕ) → Option Vote → Option Attempt → Handled
    promised_by w from period ballot vote o = elim o [
      | None ↦ silent n
      | Some a ↦ if (period == current_period n) && (a.ballot == ballot) && not a.sent then after_promise w n period ballot (with_promise from vote a) else silent n
    ]

    same_promise : (from period ballot : ℕ) (vote : Option Vote) (o : Option Attempt)
        → promised_by (bare_world g) from period ballot vote o ≡ promised_by (bare_world before) from period ballot vote o
    same_promise from period ballot vote None = refl
    same_promise from period ballot vote (Some a) =
        ap (λ c. if (period == current_period n) && (a.ballot == ballot) && not a.sent
        then (if has_majority (voter_count (bare_world g)) (with_promise from vote a).promising
        then sending (Accept period ballot c) (record n { attempt = Some (record (with_promise from vote a) { sent = true }) })
        else silent (record n { attempt = Some (with_promise from vote a) }))
        else silent n) (same_proposal (with_promise from vote a).told)

    same_handled : (p : Packet) → handled (bare_world g) i n p ≡ handled (bare_world before) i n p
    same_handled (CarriesBatch b) = refl
    same_handled (Prepare period ballot) = refl
    same_handled (Promise from period ballot vote) = ap (if_votes (bare_world g) i n) (same_promise from period ballot vote n.attempt)
    same_handled (Accept period ballot cut) = refl
    same_handled (Accepted from period ballot cut) = refl
    same_handled (Decided period cut) = refl

    -- ---- what a node does

    abbrev GoesAlike : NodeDone → NodeDone → Type 0
    GoesAlike d e = NodeGoesAlike last n d e

    refuses : (why : Refusal) → GoesAlike (unmoved (refusing (OfModel why)) n) (unmoved (refusing (OfModel why)) n)
    refuses why = record { still = λ t. (refl, refl); same = λ f. (refl, refl); fit = refl }

    takes : (name : List ℕ) (p : Packet) → GoesAlike (taking before i n name p) (taking g i n name p)
    takes name p = by_test (is_of_group g name p)
      where
        by_test : (t : Bool) → GoesAlike (if t then after_handling (handled (bare_world before) i n p) else unmoved (refusing Foreign) n)
            (if t then after_handling (handled (bare_world g) i n p) else unmoved (refusing Foreign) n)
        by_test true =
            let same = same_handled p in
            record { still = λ t. never t; same = λ f. (ap (λ h. (after_handling h).answer) same, ap (λ (h : Handled). h.node) same); fit = refl }
        by_test false = record { still = λ t. never t; same = λ f. (refl, refl); fit = refl }

    begins : GoesAlike (beginning before i n) (beginning g i n)
    begins = by_ballot (next_ballot g i n)
      where
        begun_by : Result ℕ Refusal → NodeDone
        begun_by r = elim r [
          | Ok b ↦ record { answer = record { words = HasBegun b; sends = Some (Prepare (current_period n) b) }; node = started_node g.voters b n }
          | Err why ↦ unmoved (refusing (OfModel why)) n
        ]

        by_ballot : (r : Result ℕ Refusal) → GoesAlike (begun_by r) (begun_by r)
        by_ballot (Ok b) = record { still = λ t. never t; same = λ f. (refl, refl); fit = refl }
        by_ballot (Err why) = refuses why

    -- ---- an export: what breaks no rule under the older sheet breaks none under the last

    module _ (p : ℕ) where
      abbrev shown : Sheet → Cut → Snapshot
      shown sheet to = record { period = p; from = cut_before g.agents n.kept.learned p; to = to; batches = up_to to n.kept.holding; sheet = sheet; issuer = g.issuer }

      abbrev exported_by : Sheet → Result Cut Refusal → NodeDone
      exported_by sheet r = unmoved (elim (r >>= λ to. unless_missing (first_missing n.kept.holding to) >>= λ _. Ok (shown sheet to)) [
        | Ok s ↦ if is_fit g n s then saying (HasExported s) else refusing Unfit
        | Err why ↦ refusing (OfModel why)
      ]) n

      abbrev tested : Cut → Bool → Option BrokenRule → Sheet → NodeDone
      tested to growing o sheet = unmoved (if growing && not (is_some o) then saying (HasExported (shown sheet to)) else refusing Unfit) n

      -- whether its cuts grow, and the rule that is broken first under each sheet
      by_rules : (to : Cut) (growing : Bool) (o q : Option BrokenRule) → ((o ≡ Some Unpriced → ⊥) → q ≡ o) → first_broken old (up_to to n.kept.holding) (records_in_order (up_to to n.kept.holding)) ≡ o
          → GoesAlike (tested to growing o old) (tested to growing q last)
      by_rules to false o q same is = record { still = λ t. (refl, refl); same = λ f. never (sym f); fit = refl }
      by_rules to true (Some rule) q same is = record { still = λ t. (refl, refl); same = λ f. never (sym f); fit = refl }
      by_rules to true None q same is =
          subst (λ r. GoesAlike (tested to true None old) (tested to true r last)) (sym (same (λ e. absurd (cc))))
          (record { still = λ t. never t; same = λ f. (refl, refl); fit = ap (λ r. not (is_some r)) is })

      by_missing : (to : Cut) (r : Result (Unit {0}) Refusal)
          → GoesAlike (unmoved (elim (r >>= λ _. Ok (shown old to)) [
            | Ok s ↦ if is_fit g n s then saying (HasExported s) else refusing Unfit
            | Err why ↦ refusing (OfModel why)
          ]) n) (unmoved (elim (r >>= λ _. Ok (shown last to)) [
            | Ok s ↦ if is_fit g n s then saying (HasExported s) else refusing Unfit
            | Err why ↦ refusing (OfModel why)
          ]) n)
      by_missing to (Err why) = refuses why
      by_missing to (Ok u) =
          by_rules to (are_growing (zero_cut g.agents) (take (p + 1) n.kept.learned))
          (first_broken old (up_to to n.kept.holding) (records_in_order (up_to to n.kept.holding)))
          (first_broken last (up_to to n.kept.holding) (records_in_order (up_to to n.kept.holding)))
          (priced_broken old last (up_to to n.kept.holding) taken.prices (records_in_order (up_to to n.kept.holding))) refl

      by_cut : (r : Result Cut Refusal) → GoesAlike (exported_by old r) (exported_by last r)
      by_cut (Err why) = refuses why
      by_cut (Ok to) = by_missing to (unless_missing (first_missing n.kept.holding to))

      exports : GoesAlike (unmoved (exporting before n p) n) (unmoved (exporting g n p) n)
      exports = by_cut (ok_or (slice_get n.kept.learned p) (NotClosed (current_period n)))

    sends : (agent seq : ℕ) → GoesAlike (unmoved (sending_held n.kept.holding agent seq) n) (unmoved (sending_held n.kept.holding agent seq) n)
    sends agent seq = by_held (held n.kept.holding agent seq)
      where
        sent_by : Option Batch → NodeDone
        sent_by o = unmoved (elim o [
          | Some b ↦ record { words = HasSent; sends = Some (CarriesBatch b) }
          | None ↦ refusing (OfModel (Missing agent seq))
        ]) n

        by_held : (o : Option Batch) → GoesAlike (sent_by o) (sent_by o)
        by_held (Some b) = record { still = λ t. never t; same = λ f. (refl, refl); fit = refl }
        by_held None = refuses (Missing agent seq)

    pub node_goes_alike : (c : NodeCommand) → NodeGoesAlike g.sheet n (node_does (group_under old g) i n c) (node_does g i n c)
    node_goes_alike (TakePacket name p) = takes name p
    node_goes_alike BeginBallot = begins
    node_goes_alike (ExportPeriod p) = exports p
    node_goes_alike TellKept = record { still = λ t. never t; same = λ f. (refl, refl); fit = refl }
    node_goes_alike (SendBatch agent seq) = sends agent seq

  -- ---- what an agent does

  module _ (a : ℕ) (journal : Holding) where
    abbrev DoesAlike : AgentDone → AgentDone → Type 0
    DoesAlike d e = AgentGoesAlike last journal d e

    abbrev refused : Refusal → AgentDone
    refused why = unmoved_journal (refusing (OfModel why)) journal

    refuses_too : (why : Refusal) → DoesAlike (refused why) (refused why)
    refuses_too why = record { still = λ t. (refl, refl); same = λ f. (refl, refl); fit = refl }

    abbrev journaled_by : Result Batch Refusal → AgentDone
    journaled_by r = elim r [
      | Ok b ↦ record { answer = record { words = HasJournaled b.seq; sends = Some (CarriesBatch b) }; journal = put journal b }
      | Err why ↦ refused why
    ]

    abbrev behind_tests : Batch → (own next : Bool) → Option BrokenRule → AgentDone
    behind_tests b own next o =
        journaled_by ((holds_or own NoAgent >>= λ _. holds_or next (WrongSeq (next_seq journal a)) >>= λ _. unless_broken o) >>= λ _. Ok b)

    by_tests : (b : Batch) (own next : Bool) (o q : Option BrokenRule) → ((o ≡ Some Unpriced → ⊥) → q ≡ o)
        → DoesAlike (behind_tests b own next o) (behind_tests b own next q)
    by_tests b false next o q same = refuses_too NoAgent
    by_tests b true false o q same = refuses_too (WrongSeq (next_seq journal a))
    by_tests b true true (Some Unpriced) q same = record { still = λ t. (refl, refl); same = λ f. never (sym f); fit = refl }
    by_tests b true true (Some BadTarget) q same =
        subst (λ r. DoesAlike (behind_tests b true true (Some BadTarget)) (behind_tests b true true r)) (sym (same (λ e. absurd (cc))))
        (record { still = λ t. (refl, refl); same = λ f. (refl, refl); fit = refl })
    by_tests b true true None q same =
        subst (λ r. DoesAlike (behind_tests b true true None) (behind_tests b true true r)) (sym (same (λ e. absurd (cc))))
        (record { still = λ t. never t; same = λ f. (refl, refl); fit = refl })

    abbrev tries : Sheet → Batch → Result Batch Refusal
    tries sheet b =
        (holds_or (b.agent == a) NoAgent >>= λ _. holds_or (b.seq == next_seq journal a) (WrongSeq (next_seq journal a)) >>= λ _.
        unless_broken (first_broken sheet (put journal b) (placed b))) >>= λ _. Ok b

    by_batch : (r : Result Batch Refusal) → DoesAlike (journaled_by (r >>= tries old)) (journaled_by (r >>= tries last))
    by_batch (Err why) = refuses_too why
    by_batch (Ok b) =
        by_tests b (b.agent == a) (b.seq == next_seq journal a) (first_broken old (put journal b) (placed b)) (first_broken last (put journal b) (placed b))
        (priced_broken old last (put journal b) taken.prices (placed b))

    resends : (seq : ℕ) → DoesAlike (unmoved_journal (sending_held journal a seq) journal) (unmoved_journal (sending_held journal a seq) journal)
    resends seq = by_held (held journal a seq)
      where
        sent_by : Option Batch → AgentDone
        sent_by o = unmoved_journal (elim o [
          | Some b ↦ record { words = HasSent; sends = Some (CarriesBatch b) }
          | None ↦ refusing (OfModel (Missing a seq))
        ]) journal

        by_held : (o : Option Batch) → DoesAlike (sent_by o) (sent_by o)
        by_held (Some b) = record { still = λ t. never t; same = λ f. (refl, refl); fit = refl }
        by_held None = refuses_too (Missing a seq)

    pub agent_goes_alike : (c : AgentCommand) → AgentGoesAlike g.sheet journal (agent_does (group_under old g) a journal c) (agent_does g a journal c)
    agent_goes_alike (JournalBatch offer) = by_batch (batch_of offer)
    agent_goes_alike (SendAgain seq) = resends seq
    agent_goes_alike TellJournal = record { still = λ t. never t; same = λ f. (refl, refl); fit = refl }
