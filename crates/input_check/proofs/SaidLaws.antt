-- What is said, case by case.
use Rattle.std.proofs.Common.{◌≡◌, ℕ, suc, ◌-◌, ◌<◌, ◌≤◌, true, List, [], ◌++◌, length, take, drop, Some, None, Result, Ok, Err, OnOk, refl, sym, ap, ◌∙◌, arith, append-nil, append_assoc}
use Rattle.std.proofs.lemmas.List.{length-drop}
use Rattle.std.proofs.Math.Seq.{take-append_seam}
use Rattle.metering_model.specs.Batch.{Batch}
use Rattle.metering_model.specs.Schedule.{Planned, event_of}
use Rattle.metering_model.specs.Sheet as model
use Rattle.metering_model.specs.Step.{step}
use Rattle.metering_model.specs.Transcript.{line_count}
use Rattle.metering_model.specs.World.{Delivered, Exported, Journaled, KeptText, Refused, Reply, Restarted, Started, World, opening}
use Rattle.metering_model.specs.declared.Refusal.{Refusal}
use Rattle.group_events.specs.Replies.{is_refused}
use Rattle.input_sections.specs.declared.faults.ScheduleFault.{ScheduleFault}
use Rattle.input_sections.specs.Sections.{Unread, left}
use Rattle.input_sections.specs.RateInput.{rate_input_in}
use Rattle.schedule_reader.specs.Schedules.{Preamble, event_in, events_in, preamble_in}
use Rattle.schedule_reader.proofs.EventLoop.{nonempty, empty}
use Rattle.metering_model.specs.RatedAlone.{journaled_in}
use Rattle.input_check.specs.Inner.Faults.{fault_of}
use Rattle.input_check.specs.Checks.{said_behind, said_below, said_of_batch, said_of_events, said_of_journaled, said_of_rating, said_of_refused, said_of_reply, said_of_schedule}
use Rattle.fault_lines.specs.Told.{bad_index, said_of_fault, told_of_text}

-- ---- events

pub said_none : (most : ℕ) (w : World) (u : Unread) → length (left u) ≤ 0 → said_of_events (suc most) w u ≡ []
unfolding said_of_events
said_none most w u none = empty (left u) _ _ none

pub said_no_more : (most : ℕ) (w : World) (u : Unread) (fault : ScheduleFault) → 0 < length (left u) → event_in u ≡ Err fault → said_of_events (suc most) w u ≡ []
unfolding said_of_events
said_no_more most w u fault some is =
    nonempty (left u) _ _ some
    ∙ ap (λ r. elim r [ Ok e ↦ said_of_reply u.line w e.0 (step w (event_of e.0)).0 ++ said_of_events most (step w (event_of e.0)).1 e.1 | Err fault ↦ [] ]) is

pub said_next : (most : ℕ) (w : World) (u v : Unread) (e : Planned) → 0 < length (left u) → event_in u ≡ Ok (e, v)
    → said_of_events (suc most) w u ≡ said_of_reply u.line w e (step w (event_of e)).0 ++ said_of_events most (step w (event_of e)).1 v
unfolding said_of_events
said_next most w u v e some is =
    nonempty (left u) _ _ some
    ∙ ap (λ r. elim r [ Ok e ↦ said_of_reply u.line w e.0 (step w (event_of e.0)).0 ++ said_of_events most (step w (event_of e.0)).1 e.1 | Err fault ↦ [] ]) is

pub said_end : (w : World) (u : Unread) → said_of_events 0 w u ≡ []
unfolding said_of_events
said_end w u = refl

module _ (told : List ℕ) (k : ℕ) (w : World) (u : Unread) where
  pub said_all : (n : ℕ) (before : List ℕ) → n ≡ suc k → length (left u) ≤ 0 → before ≡ told ++ said_of_events n w u → told ≡ before
  said_all n before more none is = sym (is ∙ (ap (λ m. told ++ said_of_events m w u) more ∙ (ap (λ t. told ++ t) (said_none k w u none) ∙ append-nil told)))

  pub said_whole : (n : ℕ) (before : List ℕ) (fault : ScheduleFault) → n ≡ suc k → 0 < length (left u) → event_in u ≡ Err fault → before ≡ told ++ said_of_events n w u → told ≡ before
  said_whole n before fault more some bad is = sym (is ∙ (ap (λ m. told ++ said_of_events m w u) more ∙ (ap (λ t. told ++ t) (said_no_more k w u fault some bad) ∙ append-nil told)))

  pub said_more : (n : ℕ) (before told' : List ℕ) (v : Unread) (w' : World) (e : Planned) → n ≡ suc k → 0 < length (left u) → event_in u ≡ Ok (e, v)
      → told' ≡ told ++ said_of_reply u.line w e (step w (event_of e)).0 → w' ≡ (step w (event_of e)).1
      → before ≡ told ++ said_of_events n w u → before ≡ told' ++ said_of_events k w' v
  said_more n before told' v w' e more some is told_is world_is so =
      so ∙ (ap (λ m. told ++ said_of_events m w u) more ∙ (ap (λ t. told ++ t) (said_next k w u v e some is)
      ∙ (sym (append_assoc told (said_of_reply u.line w e (step w (event_of e)).0) (said_of_events k (step w (event_of e)).1 v))
      ∙ (ap (λ t. t ++ said_of_events k (step w (event_of e)).1 v) (sym told_is) ∙ ap (λ x. told' ++ said_of_events k x v) (sym world_is)))))

pub said_at_end : (told : List ℕ) (w : World) (u : Unread) (n : ℕ) (before : List ℕ) → n ≡ 0 → before ≡ told ++ said_of_events n w u → told ≡ before
said_at_end told w u n before none is = sym (is ∙ (ap (λ m. told ++ said_of_events m w u) none ∙ (ap (λ t. told ++ t) (said_end w u) ∙ append-nil told)))

-- what is said of a reply in a world that is as it was where the reply refuses
pub said_after : (n : ℕ) (w v : World) (e : Planned) (r : Reply) → (is_refused r ≡ true → v ≡ w) → said_of_reply n v e r ≡ said_of_reply n w e r
said_after n w v e (Refused why) same = ap (λ (x : World). said_of_refused n x e why) (same refl)
said_after n w v e (Journaled k) same = refl
said_after n w v e (Delivered sent learned) same = refl
said_after n w v e (Started b k) same = refl
said_after n w v e Restarted same = refl
said_after n w v e (Exported s) same = refl
said_after n w v e (KeptText text) same = refl

-- ---- a schedule

module _ (text : List ℕ) where
  pub no_schedule : (fault : ScheduleFault) → preamble_in text ≡ Err fault → said_of_schedule text ≡ said_of_fault text fault
  unfolding said_of_schedule
  no_schedule fault is = ap (said_below text) is

  by_fault : (p : Preamble) (r : Result (List Planned) ScheduleFault) (fault : ScheduleFault) → fault_of r ≡ Some fault → said_behind text p r ≡ said_of_fault text fault
  by_fault p (Ok events) fault is = absurd (cc)
  by_fault p (Err other) fault is = let same : other ≡ fault = cc in ap (said_of_fault text) same

  by_none : (p : Preamble) (r : Result (List Planned) ScheduleFault) → fault_of r ≡ None
      → said_behind text p r ≡ said_of_events (length text) (opening p.voters p.observers p.agents p.sheet p.issuer) p.rest
  by_none p (Ok events) is = refl
  by_none p (Err other) is = absurd (cc)

  pub no_events : (p : Preamble) (fault : ScheduleFault) → preamble_in text ≡ Ok p → fault_of (events_in (length text) p.rest) ≡ Some fault
      → said_of_schedule text ≡ said_of_fault text fault
  unfolding said_of_schedule
  no_events p fault is bad = ap (said_below text) is ∙ by_fault p (events_in (length text) p.rest) fault bad

  pub events_there : (p : Preamble) → preamble_in text ≡ Ok p → fault_of (events_in (length text) p.rest) ≡ None
      → said_of_schedule text ≡ said_of_events (length text) (opening p.voters p.observers p.agents p.sheet p.issuer) p.rest
  unfolding said_of_schedule
  events_there p is well = ap (said_below text) is ∙ by_none p (events_in (length text) p.rest) well

-- what was put behind a text is taken back, and something else is put there
pub put_instead : (told more both cut said after : List ℕ) (n : ℕ) → n ≡ length told → both ≡ told ++ more → cut ≡ take n both → after ≡ cut ++ said → after ≡ told ++ said
put_instead told more both cut said after n long is cut_is after_is =
    after_is ∙ ap (λ t. t ++ said) (cut_is ∙ (ap (λ m. take m both) long ∙ (ap (take (length told)) is ∙ take-append_seam told more)))

-- what was put behind a text in two parts
pub in_two_parts : (told one other first both : List ℕ) → first ≡ told ++ one → both ≡ first ++ other → both ≡ told ++ (one ++ other)
in_two_parts told one other first both first_is both_is = both_is ∙ (ap (λ t. t ++ other) first_is ∙ append_assoc told one other)

-- what was put behind a text is taken back
pub taken_back : (told more both cut : List ℕ) (n : ℕ) → n ≡ length told → both ≡ told ++ more → cut ≡ take n both → cut ≡ told
taken_back told more both cut n long is cut_is = cut_is ∙ (ap (λ m. take m both) long ∙ (ap (take (length told)) is ∙ take-append_seam told more))

-- ---- a batch

pub refused_batch : (sheet : model.Sheet) (issuer : model.Issuer) (lines : ℕ) (text : List ℕ) (why : Refusal) → journaled_in sheet issuer text ≡ Err why
    → said_of_batch sheet issuer lines text ≡ told_of_text lines sheet text (bad_index sheet [] text) why
unfolding said_of_batch
refused_batch sheet issuer lines text why is = ap (said_of_journaled sheet lines text) is

pub taken_batch : (sheet : model.Sheet) (issuer : model.Issuer) (lines : ℕ) (text : List ℕ) (b : Batch) → journaled_in sheet issuer text ≡ Ok b
    → said_of_batch sheet issuer lines text ≡ []
unfolding said_of_batch
taken_batch sheet issuer lines text b is = ap (said_of_journaled sheet lines text) is

-- what stands above the batch is as long as the batch is not
pub above : (text : List ℕ) (from : ℕ) → from ≤ length text → length text - length (drop from text) ≡ from
above text from within = omega (arith, within, length-drop from text)

pub rated_well : (text : List ℕ) (sheet : model.Sheet) (issuer : model.Issuer) (from : ℕ) → from ≤ length text
    → rate_input_in text ≡ Ok (record { sheet = sheet; issuer = issuer; batch = drop from text })
    → said_of_rating text ≡ said_of_batch sheet issuer (line_count (take from text)) (drop from text)
unfolding said_of_rating
rated_well text sheet issuer from within is =
    ap (λ r. elim r [
      | Ok given ↦ said_of_batch given.sheet given.issuer (line_count (take (length text - length given.batch) text)) given.batch
      | Err fault ↦ said_of_fault text fault
    ]) is
    ∙ ap (λ k. said_of_batch sheet issuer (line_count (take k text)) (drop from text)) (above text from within)

pub rated_badly : (text : List ℕ) (fault : ScheduleFault) → rate_input_in text ≡ Err fault → said_of_rating text ≡ said_of_fault text fault
unfolding said_of_rating
rated_badly text fault is =
    ap (λ r. elim r [
      | Ok given ↦ said_of_batch given.sheet given.issuer (line_count (take (length text - length given.batch) text)) given.batch
      | Err fault ↦ said_of_fault text fault
    ]) is

-- ---- what holds of a call that ends well

pub both_on_ok : {E P Q R : Type 0} (result : Result (Unit {0}) E) → (P → Q → R) → OnOk result P → OnOk result Q → OnOk result R
both_on_ok (Ok done) f p q = f p q
both_on_ok (Err fault) f p q = tt

pub on_ok : {E P Q : Type 0} (result : Result (Unit {0}) E) → (P → Q) → OnOk result P → OnOk result Q
on_ok (Ok done) f p = f p
on_ok (Err fault) f p = tt

pub in_any_case : {E P : Type 0} (result : Result (Unit {0}) E) → P → OnOk result P
in_any_case (Ok done) p = p
in_any_case (Err fault) p = tt
