-- A text that stood the test is a schedule for the input.
use Rattle.std.proofs.Common.{◌≡◌, ◌≢◌, ◌≤◌, ℕ, ◌+◌, ◌-◌, max, All, List, length, take, drop, map, Option, Some, None, Ok, Err, inl, inr, refl, sym, ap, subst, ◌∙◌, arith}
use Rattle.std.specs.Arc.{arc_value}
use Rattle.std.specs.Option.{unwrap_or}
use Rattle.std.proofs.Math.Seq.{take-length}
use Rattle.std.proofs.lemmas.List.{length-drop, length-map}
use Rattle.std.proofs.lemmas.List.Elements.{All-weaker}
use Rattle.metering_model.specs.Sheet.{Sheet, Issuer}
use Rattle.metering_model.specs.World.{opening}
use Rattle.metering_model.specs.Transcript.{line}
use Rattle.input_sections.specs.RateInput.{RateInput, rate_input_in}
use Rattle.input_sections.specs.declared.faults.ScheduleFault.{ScheduleFault}
use Rattle.input_sections.specs.declared.faults.ScheduleFault.TheVariants as section
use Rattle.fault_lines.specs.Told.{said_of_fault}
use Rattle.schedule_player.specs.Transcripts.{replies_to}
use Rattle.schedule_reader.specs.Schedules.{ReadSchedule}
use Rattle.schedule_writer.specs.declared.asked.Request.{Request}
use Rattle.schedule_writer.specs.declared.plans.Plan.{Plan as LentPlan}
use Rattle.schedule_writer.specs.Inputs.{IsAskedFor, IsLastStart, Item, Offered, agents_of, batches_of, closes_of, due_before, due_in, items_in, items_of, least_last}
use Rattle.schedule_writer.specs.declared.faults.WriteFault.{WriteFault}
use Rattle.schedule_writer.specs.declared.faults.WriteFault.TheVariants as written
use Rattle.schedule_writer.specs.Refusals.{IsJournaled, IsRefused, IsRefusedAt, IsTaken, answers_to}
use Rattle.schedule_writer.specs.Schedules.{ClosesEach, IsExported, IsScheduleOf, journals_of}
use Rattle.schedule_writer.specs.Inner.Certified.{IsCertified}
use Rattle.schedule_writer.specs.Inner.Judged.{IsAskedBy, IsFaultOf, IsReadInput, IsRefusedAmong, IsRefusedOr, IsUncertain}
use Rattle.schedule_writer.specs.Inner.Plans.{Plan, all_seen, behind_all, due_for, nothing_seen, taken_of, plan_of}
use Rattle.schedule_writer.proofs.Certificates.{IsGood, IsShown, all_exports, all_good, ballots, closed, due, exports, good_is, journals, learned, needed}
use Rattle.schedule_writer.proofs.KnownLaws.{no_line}

-- ---- what is read from a byte on is what stands behind the sections

from_is : (input : List ℕ) (from : ℕ) → from ≤ length input → from ≡ length input - length (drop from input)
from_is input from within = let drops = length-drop from input in omega arith

pub items_behind : (input : List ℕ) (from : ℕ) (sheet : Sheet) (issuer : Issuer) → from ≤ length input
    → items_in (length input) input from ≡ items_of input (record { sheet = sheet; issuer = issuer; batch = drop from input })
unfolding items_of
items_behind input from sheet issuer within = ap (items_in (length input) input) (from_is input from within)

-- ---- what is closed

shown_is_exported : (r : ReadSchedule) (base place period : ℕ) → base ≡ r.sheet.base
    → IsShown base (opening r.voters r.observers r.agents r.sheet r.issuer) r.events place period → IsExported r place period
shown_is_exported r base place period same is = let plain = subst (λ b. IsShown b (opening r.voters r.observers r.agents r.sheet r.issuer) r.events place period) same is in
    record { snapshot = plain.snapshot; answers = plain.answers; is_of = plain.is_of; cut = plain.cut }

pub closes_each : (plan : Plan) (r : ReadSchedule) (is : List Item) (last : ℕ) → plan.nodes ≡ r.voters + r.observers → plan.last ≡ last → plan.base ≡ r.sheet.base
    → plan.batches ≡ map (λ b. b.text) (batches_of is) → plan.closes ≡ closes_of is
    → behind_all plan nothing_seen (opening r.voters r.observers r.agents r.sheet r.issuer) r.events ≡ Some (all_seen plan) → ClosesEach r is last
closes_each plan r is last nodes is_last base batches closes done =
    let w = opening r.voters r.observers r.agents r.sheet r.issuer in
    let replies : All (IsGood last) (replies_to r r.events) = subst (λ n. All (IsGood n) (replies_to r r.events)) is_last (all_good plan nothing_seen (all_seen plan) w r.events done) in
    record {
      journals = journals plan nothing_seen (all_seen plan) w r.events done ∙ (take-length plan.batches ∙ batches);
      exports = all_exports (r.voters + r.observers) last 0 plan r.events nodes is_last (exports plan nothing_seen (all_seen plan) w r.events done);
      ballots = (let so = ballots plan nothing_seen (all_seen plan) w r.events done in omega (arith, so, is_last));
      needed = needed plan nothing_seen (all_seen plan) w r.events done;
      none_refused = All-weaker _ _ (λ reply so. (good_is last reply so).0) (replies_to r r.events) replies;
      none_later = All-weaker _ _ (λ reply so. (good_is last reply so).1) (replies_to r r.events) replies;
      closed = λ place node period asks. shown_is_exported r plan.base place period base (closed plan nothing_seen (all_seen plan) w r.events done place node period asks);
      due = λ place node period asks.
          (let so = due plan nothing_seen (all_seen plan) w r.events done place node period asks in
          let plain : length (journals_of (take place r.events)) ≡ due_for plan period = omega (arith, so) in
          plain ∙ same_due period);
      behind = λ place period sent learns.
          (let so = learned plan nothing_seen (all_seen plan) w r.events done place period sent learns in
          let plain : length (journals_of (take place r.events)) ≡ due_for plan period = omega (arith, so) in
          plain ∙ same_due period);
    }
  where
    same_due : (period : ℕ) → due_for plan period ≡ due_before is period
    same_due period =
        ap (λ cs. due_in cs (length plan.batches) period) closes
        ∙ ap (λ n. due_in (closes_of is) n period) (ap length batches ∙ length-map (batches_of is) (λ b. b.text))

-- ---- the whole

pub is_asked_for : (through : Option ℕ) (base last : ℕ) (bs : List Offered) → IsLastStart base bs last → IsAskedFor through base bs (unwrap_or through last)
is_asked_for (Some p) base last bs is = refl
is_asked_for None base last bs is = is

pub scheduled : (request : Request) (input text : List ℕ) (plan : LentPlan) (issuer : Issuer) (last asked : ℕ)
    → IsReadInput input (arc_value plan.sheet.now) issuer (map taken_of plan.batches.now) plan.closes.now
    → IsAskedBy (arc_value plan.sheet.now).base (map taken_of plan.batches.now) plan.agents last
    → plan.voters ≡ request.nodes → plan.observers ≡ request.observers → plan.nodes ≡ request.nodes + request.observers
    → asked ≡ unwrap_or request.through last
    → plan.last ≡ max asked (least_last request.through (length plan.batches.now) plan.closes.now)
    → IsCertified (plan_of plan) plan.voters plan.observers plan.agents (arc_value plan.sheet.now) issuer text
    → IsScheduleOf request (Some input) input text
scheduled request input text plan issuer last asked read by voters observers nodes is_asked is certified =
    let given = read.given in
    let items = items_of input given in
    let bs = map taken_of plan.batches.now in
    let wanted : IsAskedFor request.through (arc_value plan.sheet.now).base bs asked
    = subst (IsAskedFor request.through (arc_value plan.sheet.now).base bs) (sym is_asked) (is_asked_for request.through (arc_value plan.sheet.now).base last bs by.is_last) in
    record {
      is_input = refl;
      given = given;
      is_given = read.is_given;
      schedule = certified.schedule;
      is_read = certified.is_read;
      voters = certified.group.has_voters ∙ voters;
      observers = certified.group.has_observers ∙ observers;
      agents = certified.group.has_agents ∙ (by.are_agents ∙ ap agents_of read.batches);
      sheet = certified.group.by_sheet ∙ sym read.by_sheet;
      issuer = certified.group.by_issuer ∙ sym read.by_issuer;
      last = plan.last;
      through = record {
        asked = asked;
        is_asked = subst (λ (s : Sheet). IsAskedFor request.through s.base (batches_of items) asked) (sym read.by_sheet)
            (subst (λ xs. IsAskedFor request.through (arc_value plan.sheet.now).base xs asked) read.batches wanted);
        is_last =
            is ∙ (ap (λ cs. max asked (least_last request.through (length plan.batches.now) cs)) read.are_closes
            ∙ ap (λ n. max asked (least_last request.through n (closes_of items))) (sym (length-map plan.batches.now taken_of) ∙ ap length read.batches));
      };
      closes = closes_each (plan_of plan) certified.schedule items plan.last
          (nodes ∙ (ap (λ n. n + request.observers) (sym (certified.group.has_voters ∙ voters))
          ∙ ap (λ n. certified.schedule.voters + n) (sym (certified.group.has_observers ∙ observers))))
          refl (ap (λ (s : Sheet). s.base) (sym certified.group.by_sheet)) (ap (map (λ b. b.text)) read.batches) read.are_closes certified.done;
    }

-- ---- what is refused, or not

pub refused_at : (input : List ℕ) (given : RateInput) (bs : List Offered) (told : List ℕ) → rate_input_in input ≡ Ok given → bs ≡ batches_of (items_of input given)
    → IsRefusedAmong input given.sheet given.issuer bs told → IsRefusedAt input told
refused_at input given bs told is_given same is =
    record {
      given = given;
      is_given = is_given;
      before = is.before;
      batch = is.batch;
      behind = is.behind;
      all = sym same ∙ is.all;
      taken = is.taken;
      why = is.refused.why;
      refused = is.refused.refused;
      is_told = is.refused.is_told;
    }

fault_of : (input : List ℕ) (so : List ℕ → Type 0) → ((told : List ℕ) → so told → IsRefused input told) → (fault : WriteFault) → IsRefusedOr so fault → IsFaultOf input fault
fault_of input so from (written.Refused told) is = from told.items is
fault_of input so from written.OutOfMemory is = is
fault_of input so from written.Read is = is
fault_of input so from written.TooLong is = absurd is
fault_of input so from written.NotClosed is = absurd is
fault_of input so from written.Write is = is

-- of want of memory no line is told
pub section_fault : (input : List ℕ) (why : ScheduleFault) (fault : WriteFault) → (why ≢ section.OutOfMemory → rate_input_in input ≡ Err why)
    → IsRefusedOr (λ told. line told ≡ said_of_fault input why) fault → IsFaultOf input fault
section_fault input why fault is told =
    fault_of input (λ words. line words ≡ said_of_fault input why)
    (λ words so. inl (record { fault = why; refused = is (λ want. no_line words (so ∙ ap (said_of_fault input) want)); is_told = so })) fault told

pub refused_fault : (input : List ℕ) (given : RateInput) (sheet : Sheet) (issuer : Issuer) (bs : List Offered) (fault : WriteFault) → rate_input_in input ≡ Ok given
    → given.sheet ≡ sheet → given.issuer ≡ issuer → bs ≡ batches_of (items_of input given) → IsRefusedOr (IsRefusedAmong input sheet issuer bs) fault → IsFaultOf input fault
refused_fault input given sheet issuer bs fault is_given by_sheet by_issuer same is =
    fault_of input (IsRefusedAmong input sheet issuer bs)
    (λ told so. inr (refused_at input given bs told is_given same
    (subst (λ (s : Sheet). IsRefusedAmong input s given.issuer bs told) (sym by_sheet)
    (subst (λ (i : Issuer). IsRefusedAmong input sheet i bs told) (sym by_issuer) so)))) fault is

pub is_taken : (input : List ℕ) (given : RateInput) (sheet : Sheet) (issuer : Issuer) (bs : List Offered) → rate_input_in input ≡ Ok given → given.sheet ≡ sheet → given.issuer ≡ issuer
    → bs ≡ batches_of (items_of input given) → All IsJournaled (answers_to sheet issuer bs) → IsTaken input
is_taken input given sheet issuer bs is_given by_sheet by_issuer same all =
    record {
      given = given;
      is_given = is_given;
      taken = subst (λ (s : Sheet). All IsJournaled (answers_to s given.issuer (batches_of (items_of input given)))) (sym by_sheet)
          (subst (λ (i : Issuer). All IsJournaled (answers_to sheet i (batches_of (items_of input given)))) (sym by_issuer)
          (subst (λ xs. All IsJournaled (answers_to sheet issuer xs)) same all));
    }

pub uncertain : (input : List ℕ) → IsTaken input → (fault : WriteFault) → IsUncertain fault → IsFaultOf input fault
uncertain input taken written.TooLong is = taken
uncertain input taken written.NotClosed is = taken
uncertain input taken written.OutOfMemory is = is
uncertain input taken (written.Refused told) is = absurd is
uncertain input taken written.Read is = is
uncertain input taken written.Write is = is
