-- What is lent of a plan, and what one event more has done.
use Rattle.std.proofs.Common.{◌≡◌, ◌<◌, ◌≤◌, ◌&&◌, ℕ, suc, Bool, true, false, cond, nat_eq, nat_lt, List, [], ◌∷◌, length, map, get_or, Option, Some, None, Result, Ok, Err, refl, sym, ap, ap₂, ◌∙◌, arith, lt-ltb, subst}
use Rattle.std.specs.Prelude.{◌↔◌, IfOk, IsTrue, not, nat_le}
use Rattle.std.specs.Option.{option_and_then, option_map_or}
use Rattle.std.proofs.lemmas.Bool.{and_from, eq-eqb}
use Rattle.std.proofs.lemmas.List.{get_or-map, length-map}
use Rattle.std.specs.Arc.{arc_value}
use Rattle.metering_model.specs.Batch.{Batch, is_empty}
use Rattle.metering_model.specs.BatchReading.{batch_in, is_same}
use Rattle.metering_model.specs.FirstFailure.{◌>>=◌}
use Rattle.metering_model.specs.Holding.{Holding}
use Rattle.metering_model.specs.Schedule.{Planned, event_of}
use Rattle.metering_model.specs.Sheet.{Sheet, Issuer}
use Rattle.metering_model.specs.Step.{step}
use Rattle.metering_model.specs.World.{World, Event, Journal, Good, Bad, Reply, offer_of, opening}
use Rattle.metering_model.specs.declared.BatchFault.{BatchFault}
use Rattle.metering_model.proofs.FieldLaws.{same_read}
use Rattle.input_sections.specs.declared.faults.ScheduleFault.{ScheduleFault}
use Rattle.input_sections.specs.Sections.{Unread, left}
use Rattle.group_events.specs.Replies.{is_refused}
use Rattle.schedule_reader.specs.Schedules.{Preamble, event_in, events_in, preamble_in}
use Rattle.schedule_reader.proofs.PreambleLaws.{taken_behind}
use Rattle.schedule_writer.specs.Schedules.{learned_in}
use Rattle.schedule_writer.specs.declared.faults.Stop.{Stop}
use Rattle.schedule_writer.specs.declared.judging.Taken.{Taken}
use Rattle.schedule_writer.specs.declared.plans.Plan.{Plan as LentPlan}
use Rattle.schedule_writer.specs.declared.plans.Seen.{Seen}
use Rattle.schedule_writer.specs.Inner.Certified.{IsCertified}
use Rattle.schedule_writer.specs.Inner.Plans.{IsDone, IsDoneNext, Plan, all_seen, behind, behind_all, behind_taken, due_for, is_next, journals_behind, nothing_seen, taken_of, plan_of}
use Rattle.schedule_writer.proofs.JournalLaws.{journals_after}

pub next_is : (p : LentPlan) (seen : Seen) (text : List ℕ) (d : Taken) → seen.journaled < length p.batches.now
    → is_same (arc_value (get_or p.batches.now seen.journaled d).batch) text ≡ is_next (plan_of p) seen text
next_is p seen text d within =
    let bs = p.batches.now in
    let lengths : length (plan_of p).batches ≡ length bs = length-map (map taken_of bs) (λ b. b.text) ∙ length-map bs taken_of in
    let test : nat_lt seen.journaled (length (plan_of p).batches) ≡ true = lt-ltb seen.journaled (length (plan_of p).batches) (omega arith) in
    let half : seen.journaled < length (map taken_of bs) = (let h : length (map taken_of bs) ≡ length bs = length-map bs taken_of in omega arith) in
    let read : get_or (plan_of p).batches seen.journaled [] ≡ arc_value (get_or bs seen.journaled d).batch
    = get_or-map (λ b. b.text) (map taken_of bs) seen.journaled (taken_of d) [] half
    ∙ ap (λ b. b.text) (get_or-map taken_of bs seen.journaled d (taken_of d) within) in
    sym (ap (λ t. t && is_same (get_or (plan_of p).batches seen.journaled []) text) test ∙ ap (λ t. is_same t text) read)

-- bytes that were read as a batch are what is offered by the same text
pub offered_is : (bytes text : List ℕ) (b : Batch) → bytes ≡ text → batch_in text ≡ Ok b → Journal (Good bytes) ≡ Journal (offer_of text)
offered_is bytes text b same is =
    ap (λ t. Journal (Good t)) same ∙ ap (λ (r : Result Batch BatchFault). Journal (elim r [ Ok x ↦ Good text | Err fault ↦ Bad fault ])) (sym is)

same_itself : (t : List ℕ) → is_same t t ≡ true
same_itself [] = refl
same_itself (x ∷ xs) = and_from (nat_eq x x) (is_same xs xs) (eq-eqb x x refl) (same_itself xs)

-- a test of two cuts
pub cuts_tested : (b : Bool) (x y : List ℕ) → IsTrue b ↔ (x ≡ y) → b ≡ is_same x y
cuts_tested b x y is = by_test b (is_same x y) refl is
  where
    by_test : (b t : Bool) → is_same x y ≡ t → IsTrue b ↔ (x ≡ y) → b ≡ t
    by_test true true so is = refl
    by_test false false so is = refl
    by_test true false so is = sym (same_itself x) ∙ (ap (is_same x) (is.0 refl) ∙ so)
    by_test false true so is = absurd (let no = is.1 (same_read x y so) in cc)

-- ---- one event more

-- what was taken was not refused
pub not_refused : (plan : Plan) (seen next : Seen) (h : Holding) (r : Reply) (e : Planned) → behind plan seen h r e ≡ Some next → is_refused r ≡ false
not_refused plan seen next h r e is =
    by_test (is_refused r) (option_map_or (λ period. nat_le period plan.last && nat_eq seen.journaled (due_for plan period)) (learned_in r) true) (behind_taken plan seen h r e) is
  where
    by_test : (t good : Bool) (o : Option Seen) → cond (not t && good) o None ≡ Some next → t ≡ false
    by_test false good o so = refl
    by_test true good o so = absurd (cc)

-- the journals are those of the world behind it
pub kept_journals : (plan : Plan) (seen next : Seen) (w v : World) (e : Planned) (event : Event) (before after : Holding)
    → behind plan seen w.journals (step w (event_of e)).0 e ≡ Some next → v ≡ (step w (event_of e)).1 → event ≡ event_of e → before ≡ w.journals
    → after ≡ journals_behind before event → after ≡ v.journals
kept_journals plan seen next w v e event before after one behind_it same old new =
    new ∙ (ap₂ journals_behind old same
    ∙ (sym (journals_after w (event_of e) (not_refused plan seen next w.journals (step w (event_of e)).0 e one)) ∙ ap (λ (x : World). x.journals) (sym behind_it)))

-- what was done behind an event that the world took, and the world behind it
pub behind_made : (plan : Plan) (seen next : Seen) (w v : World) (h : Holding) (r : Reply) (e : Planned) (event : Event) (result : Result (Option Seen) Stop)
    → (r, v) ≡ step w event → event ≡ event_of e → h ≡ w.journals → IfOk result (λ n. n ≡ behind plan seen h r e) → result ≡ Ok (Some next)
    → (behind plan seen w.journals (step w (event_of e)).0 e ≡ Some next) × (v ≡ (step w (event_of e)).1)
behind_made plan seen next w v h r e event result stepped made same is here =
    let there : ◌≡◌ {A = Reply × World} (r, v) (step w (event_of e)) = stepped ∙ ap (step w) made in
    let one : Some next ≡ behind plan seen h r e = subst (λ (x : Result (Option Seen) Stop). IfOk x (λ n. n ≡ behind plan seen h r e)) here is in (
      ap₂ (λ j q. behind plan seen j q e) (sym same) (sym (ap (λ (p : Reply × World). p.0) there)) ∙ sym one,
      ap (λ (p : Reply × World). p.1) there,
    )

not_empty : {A : Type 0} (t : List ℕ) (x y : A) → 0 < length t → cond (is_empty t) x y ≡ y
not_empty [] x y some = absurd (omega arith)
not_empty (c ∷ cs) x y some = refl

all_empty : {A : Type 0} (t : List ℕ) (x y : A) → length t ≤ 0 → cond (is_empty t) x y ≡ x
all_empty [] x y none = refl
all_empty (c ∷ cs) x y none = absurd (omega arith)

module _ (plan : Plan) where
  pub done_more : (seen next last : Seen) (w v : World) (k most : ℕ) (u rest : Unread) → most ≡ suc k → 0 < length (left u) → IsDoneNext plan seen next w v u rest
      → IsDone plan next last v (events_in k rest) → IsDone plan seen last w (events_in most u)
  unfolding events_in behind_all
  done_more seen next last w v k most u rest more some one is =
      record {
        events = one.event ∷ is.events;
        is_read =
            ap (λ n. events_in n u) more
            ∙ (not_empty (left u) (Ok []) (event_in u >>= λ (x : Planned × Unread). events_in k x.1 >>= λ (es : List Planned). Ok (x.0 ∷ es)) some
            ∙ (ap (λ (r : Result (Planned × Unread) ScheduleFault). r >>= λ (x : Planned × Unread). events_in k x.1 >>= λ (es : List Planned). Ok (x.0 ∷ es)) one.is_read
            ∙ ap (λ (r : Result (List Planned) ScheduleFault). r >>= λ (es : List Planned). Ok (one.event ∷ es)) is.is_read));
        done =
            ap (option_and_then (λ n. behind_all plan n (step w (event_of one.event)).1 is.events)) one.done
            ∙ (ap (λ x. behind_all plan next x is.events) (sym one.after) ∙ is.done);
      }

  -- nothing more is left, or nothing more is looked at
  pub done_all : (seen : Seen) (w : World) (k most : ℕ) (u : Unread) → most ≡ suc k → length (left u) ≤ 0 → IsDone plan seen seen w (events_in most u)
  unfolding events_in behind_all
  done_all seen w k most u more none =
      record {
        events = [];
        is_read =
            ap (λ n. events_in n u) more
            ∙ all_empty (left u) (Ok []) (event_in u >>= λ (x : Planned × Unread). events_in k x.1 >>= λ (es : List Planned). Ok (x.0 ∷ es)) none;
        done = refl;
      }

  pub done_none : (seen : Seen) (w : World) (most : ℕ) (u : Unread) → most ≡ 0 → IsDone plan seen seen w (events_in most u)
  unfolding events_in behind_all
  done_none seen w most u none = record { events = []; is_read = ap (λ n. events_in n u) none; done = refl }

-- ---- the whole

pub certified : (plan : Plan) (text : List ℕ) (p : Preamble) (voters observers agents : ℕ) (sheet : Sheet) (issuer : Issuer) (last : Seen) → preamble_in text ≡ Ok p
    → p.voters ≡ voters → p.observers ≡ observers → p.agents ≡ agents → p.sheet ≡ sheet → p.issuer ≡ issuer → last ≡ all_seen plan
    → IsDone plan nothing_seen last (opening p.voters p.observers p.agents p.sheet p.issuer) (events_in (length text) p.rest)
    → IsCertified plan voters observers agents sheet issuer text
certified plan text p voters observers agents sheet issuer last above has_voters has_observers has_agents by_sheet by_issuer all done =
    record {
      schedule = record { voters = p.voters; observers = p.observers; agents = p.agents; sheet = p.sheet; issuer = p.issuer; events = done.events };
      is_read = taken_behind text p done.events above done.is_read;
      group = record { has_voters = has_voters; has_observers = has_observers; has_agents = has_agents; by_sheet = by_sheet; by_issuer = by_issuer };
      done = done.done ∙ ap Some all;
    }
