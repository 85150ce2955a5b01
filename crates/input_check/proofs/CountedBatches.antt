-- The batches that count, event by event, are those among the replies; and what is told of them goes on from one to the next.
use Rattle.std.proofs.Common.{◌≡◌, ℕ, zero, suc, ◌<◌, ◌≤◌, Bool, true, false, cond, List, [], ◌∷◌, ◌++◌, length, map, Result, Ok, Err, refl, sym, ap, ap₂, ◌∙◌, subst, append-nil, append_assoc}
use Rattle.metering_model.specs.Batch.{Batch, is_empty}
use Rattle.metering_model.specs.BatchReading.{batch_in}
use Rattle.metering_model.specs.FirstFailure.{◌>>=◌}
use Rattle.metering_model.specs.Schedule.{Planned, PlansDelivery, PlansExport, PlansJournal, PlansKeep, PlansRestart, PlansRevival, PlansStart, TextLines, event_of, lines_text}
use Rattle.metering_model.specs.Step.{play, step}
use Rattle.metering_model.specs.World.{Bad, Delivered, Event, Exported, Good, Journal, Journaled, KeptText, Refused, Reply, Restarted, Started, World}
use Rattle.metering_model.specs.declared.BatchFault.{BatchFault}
use Rattle.metering_model.proofs.StepLaws.{ok_same, step_ok}
use Rattle.input_sections.specs.declared.faults.ScheduleFault.{ScheduleFault}
use Rattle.input_sections.specs.Sections.{Unread, left}
use Rattle.schedule_reader.specs.Schedules.{event_in, events_in}
use Rattle.schedule_reader.proofs.EventLoop.{nonempty, empty}
use Rattle.batch_view.specs.declared.owned.Offer.{Offer}
use Rattle.group_events.specs.declared.events.Event as events
use Rattle.group_events.specs.declared.events.Event.TheVariants as event
use Rattle.group_events.specs.declared.replies.Reply as replies
use Rattle.group_events.specs.declared.replies.Reply.TheVariants as reply
use Rattle.group_events.specs.Events.{event_of as events_of}
use Rattle.group_events.specs.Replies.{reply_of}
use Rattle.fault_lines.specs.Ahead.{ahead_of, ahead_of_all}
use Rattle.input_check.specs.Checks.{lines_of_events}
use Rattle.input_check.specs.Inner.Counted.{counted_of, counted_of_events, handed_in, with_counted}
use Rattle.input_check.specs.Warnings.{if_journaled, journaled_among}

-- ---- what is told of batches

pub ahead_joined : (journaled : List Batch) (xs ys : List (ℕ × Batch))
    → ahead_of_all journaled (xs ++ ys) ≡ ahead_of_all journaled xs ++ ahead_of_all (with_counted xs journaled) ys
unfolding ahead_of_all
ahead_joined journaled [] ys = refl
ahead_joined journaled (x ∷ xs) ys =
    ap (λ t. ahead_of journaled x.0 x.1 ++ t) (ahead_joined (x.1 ∷ journaled) xs ys)
    ∙ sym (append_assoc (ahead_of journaled x.0 x.1) (ahead_of_all (x.1 ∷ journaled) xs) (ahead_of_all (with_counted xs (x.1 ∷ journaled)) ys))

pub ahead_of_none : (journaled : List Batch) → ahead_of_all journaled [] ≡ []
unfolding ahead_of_all
ahead_of_none journaled = refl

pub ahead_of_one : (journaled : List Batch) (n : ℕ) (b : Batch) → ahead_of_all journaled ((n, b) ∷ []) ≡ ahead_of journaled n b
unfolding ahead_of_all
ahead_of_one journaled n b = append-nil (ahead_of journaled n b)

-- ---- one event

-- what is handed in is the text, where it is a batch
same_batch : (n : ℕ) (w : World) (ls : TextLines) → counted_of n (event_of (PlansJournal ls)) (step w (event_of (PlansJournal ls))).0 ≡ if_journaled n (PlansJournal ls) (step w (event_of (PlansJournal ls))).0
same_batch n w ls = by_batch (batch_in (lines_text ls))
  where
    by_reply : (r : Reply) → counted_of n (Journal (Good (lines_text ls))) r ≡ if_journaled n (PlansJournal ls) r
    by_reply (Journaled k) = refl
    by_reply (Delivered sent learned) = refl
    by_reply (Started b k) = refl
    by_reply Restarted = refl
    by_reply (Exported s) = refl
    by_reply (KeptText text) = refl
    by_reply (Refused why) = refl

    by_batch : (r : Result Batch BatchFault) → counted_of n (Journal (elim r [ Ok b ↦ Good (lines_text ls) | Err fault ↦ Bad fault ])) (step w (Journal (elim r [ Ok b ↦ Good (lines_text ls) | Err fault ↦ Bad fault ]))).0
        ≡ if_journaled n (PlansJournal ls) (step w (Journal (elim r [ Ok b ↦ Good (lines_text ls) | Err fault ↦ Bad fault ]))).0
    by_batch (Ok b) = by_reply (step w (Journal (Good (lines_text ls)))).0
    by_batch (Err fault) = refl

none_counted : (n : ℕ) (e : Event) → handed_in n e ≡ [] → (r : Reply) → counted_of n e r ≡ []
none_counted n e none (Journaled k) = none
none_counted n e none (Delivered sent learned) = refl
none_counted n e none (Started b k) = refl
none_counted n e none Restarted = refl
none_counted n e none (Exported s) = refl
none_counted n e none (KeptText text) = refl
none_counted n e none (Refused why) = refl

pub same_counted : (n : ℕ) (w : World) (e : Planned) → counted_of n (event_of e) (step w (event_of e)).0 ≡ if_journaled n e (step w (event_of e)).0
same_counted n w (PlansJournal ls) = same_batch n w ls
same_counted n w (PlansDelivery k i) = none_counted n (event_of (PlansDelivery k i)) refl (step w (event_of (PlansDelivery k i))).0
same_counted n w (PlansStart i) = none_counted n (event_of (PlansStart i)) refl (step w (event_of (PlansStart i))).0
same_counted n w (PlansRestart i) = none_counted n (event_of (PlansRestart i)) refl (step w (event_of (PlansRestart i))).0
same_counted n w (PlansExport i p) = none_counted n (event_of (PlansExport i p)) refl (step w (event_of (PlansExport i p))).0
same_counted n w (PlansKeep i) = none_counted n (event_of (PlansKeep i)) refl (step w (event_of (PlansKeep i))).0
same_counted n w (PlansRevival i ls) = none_counted n (event_of (PlansRevival i ls)) refl (step w (event_of (PlansRevival i ls))).0

-- ---- an event of the code, and a reply

pub no_batch_journaled : (n : ℕ) (e : Event) (r : replies.Reply) → ((packet : ℕ) → r ≡ reply.Journaled packet → ⊥) → counted_of n e (reply_of r) ≡ []
no_batch_journaled n e (reply.Journaled packet) never = absurd (never packet refl)
no_batch_journaled n e (reply.Delivered sent learned) never = refl
no_batch_journaled n e (reply.Started ballot packet) never = refl
no_batch_journaled n e reply.Restarted never = refl
no_batch_journaled n e (reply.Exported snapshot) never = refl
no_batch_journaled n e (reply.KeptText text) never = refl
no_batch_journaled n e (reply.Refused refusal) never = refl

pub no_batch_handed_in : (n : ℕ) (e : events.Event) → ((offer : Offer) → e ≡ event.Journal offer → ⊥) → handed_in n (events_of e) ≡ []
no_batch_handed_in n (event.Journal offer) never = absurd (never offer refl)
no_batch_handed_in n (event.Deliver packet node) never = refl
no_batch_handed_in n (event.Start node) never = refl
no_batch_handed_in n (event.Restart node) never = refl
no_batch_handed_in n (event.Export node period) never = refl
no_batch_handed_in n (event.Keep node) never = refl
no_batch_handed_in n (event.Revive node offer) never = refl

-- what an event of a schedule stands for was done
pub counted_there : (n : ℕ) (w : World) (e : Planned) (here : Event) (answer : Reply) (w' : World) → here ≡ event_of e → ◌≡◌ {A = Reply × World} (answer, w') (step w here)
    → counted_of n here answer ≡ if_journaled n e (step w (event_of e)).0
counted_there n w e here answer w' same is =
    ap₂ (counted_of n) same (ap (λ (o : Reply × World). o.0) is ∙ ap (λ (v : Event). (step w v).0) same) ∙ same_counted n w e

-- ---- the events that are left

counted_none : (most : ℕ) (w : World) (u : Unread) → length (left u) ≤ 0 → counted_of_events (suc most) w u ≡ []
unfolding counted_of_events
counted_none most w u none = empty (left u) _ _ none

counted_no_more : (most : ℕ) (w : World) (u : Unread) (fault : ScheduleFault) → 0 < length (left u) → event_in u ≡ Err fault → counted_of_events (suc most) w u ≡ []
unfolding counted_of_events
counted_no_more most w u fault some is =
    nonempty (left u) _ _ some
    ∙ ap (λ r. elim r [ Ok e ↦ if_journaled u.line e.0 (step w (event_of e.0)).0 ++ counted_of_events most (step w (event_of e.0)).1 e.1 | Err fault ↦ [] ]) is

counted_next : (most : ℕ) (w : World) (u v : Unread) (e : Planned) → 0 < length (left u) → event_in u ≡ Ok (e, v)
    → counted_of_events (suc most) w u ≡ if_journaled u.line e (step w (event_of e)).0 ++ counted_of_events most (step w (event_of e)).1 v
unfolding counted_of_events
counted_next most w u v e some is =
    nonempty (left u) _ _ some
    ∙ ap (λ r. elim r [ Ok e ↦ if_journaled u.line e.0 (step w (event_of e.0)).0 ++ counted_of_events most (step w (event_of e.0)).1 e.1 | Err fault ↦ [] ]) is

counted_end : (w : World) (u : Unread) → counted_of_events 0 w u ≡ []
unfolding counted_of_events
counted_end w u = refl

module _ (warned : List ℕ) (journaled : List Batch) (w : World) (u : Unread) where
  abbrev Goes : ℕ → List ℕ → Type 0
  Goes n before = before ≡ warned ++ ahead_of_all journaled (counted_of_events n w u)

  ends : (n : ℕ) (before : List ℕ) → counted_of_events n w u ≡ [] → Goes n before → warned ≡ before
  ends n before none is =
      sym (is ∙ (ap (λ xs. warned ++ ahead_of_all journaled xs) none ∙ (ap (λ t. warned ++ t) (ahead_of_none journaled) ∙ append-nil warned)))

  pub warned_all : (k n : ℕ) (before : List ℕ) → n ≡ suc k → length (left u) ≤ 0 → Goes n before → warned ≡ before
  warned_all k n before more none is = ends n before (ap (λ m. counted_of_events m w u) more ∙ counted_none k w u none) is

  pub warned_whole : (k n : ℕ) (before : List ℕ) (fault : ScheduleFault) → n ≡ suc k → 0 < length (left u) → event_in u ≡ Err fault → Goes n before → warned ≡ before
  warned_whole k n before fault more some bad is = ends n before (ap (λ m. counted_of_events m w u) more ∙ counted_no_more k w u fault some bad) is

  pub warned_at_end : (n : ℕ) (before : List ℕ) → n ≡ 0 → Goes n before → warned ≡ before
  warned_at_end n before none is = ends n before (ap (λ m. counted_of_events m w u) none ∙ counted_end w u) is

  pub warned_more : (k n : ℕ) (before warned' : List ℕ) (v : Unread) (w' : World) (e : Planned) → n ≡ suc k → 0 < length (left u) → event_in u ≡ Ok (e, v)
      → warned' ≡ warned ++ ahead_of_all journaled (if_journaled u.line e (step w (event_of e)).0) → w' ≡ (step w (event_of e)).1 → Goes n before
      → before ≡ warned' ++ ahead_of_all (with_counted (if_journaled u.line e (step w (event_of e)).0) journaled) (counted_of_events k w' v)
  warned_more k n before warned' v w' e more some is warned_is world_is so =
      let here = if_journaled u.line e (step w (event_of e)).0 in
      let rest = counted_of_events k (step w (event_of e)).1 v in
      so ∙ (ap (λ xs. warned ++ ahead_of_all journaled xs) (ap (λ m. counted_of_events m w u) more ∙ counted_next k w u v e some is)
      ∙ (ap (λ t. warned ++ t) (ahead_joined journaled here rest)
      ∙ (sym (append_assoc warned (ahead_of_all journaled here) (ahead_of_all (with_counted here journaled) rest))
      ∙ (ap (λ t. t ++ ahead_of_all (with_counted here journaled) rest) (sym warned_is)
      ∙ ap (λ x. warned' ++ ahead_of_all (with_counted here journaled) (counted_of_events k x v)) (sym world_is)))))

-- ---- all events

pub all_counted : (most : ℕ) (w : World) (u : Unread) (es : List Planned) → events_in most u ≡ Ok es
    → counted_of_events most w u ≡ journaled_among (lines_of_events most u) es (play w (map event_of es)).0
unfolding events_in counted_of_events lines_of_events
all_counted zero w u es h = refl
all_counted (suc most) w u es h = by_test (λ v x xs is. all_counted most v x xs is) (is_empty (left u)) (event_in u) h
  where
    by_test : ((v : World) (x : Unread) (xs : List Planned) → events_in most x ≡ Ok xs → counted_of_events most v x ≡ journaled_among (lines_of_events most x) xs (play v (map event_of xs)).0)
        → (b : Bool) (r : Result (Planned × Unread) ScheduleFault)
        → cond b (Ok []) (r >>= λ (e : Planned × Unread). events_in most e.1 >>= λ (rest : List Planned). Ok (e.0 ∷ rest)) ≡ Ok es
        → cond b [] (elim r [ Ok e ↦ if_journaled u.line e.0 (step w (event_of e.0)).0 ++ counted_of_events most (step w (event_of e.0)).1 e.1 | Err fault ↦ [] ])
        ≡ journaled_among (cond b [] (elim r [ Ok e ↦ u.line ∷ lines_of_events most e.1 | Err fault ↦ [] ])) es (play w (map event_of es)).0
    by_test behind_it true r k = refl
    by_test behind_it false (Err fault) k = absurd (cc)
    by_test behind_it false (Ok e) k =
        let rest = step_ok (events_in most e.1) (λ (more : List Planned). Ok (e.0 ∷ more)) es k in
        let next = (step w (event_of e.0)).1 in
        let here = if_journaled u.line e.0 (step w (event_of e.0)).0 in
        subst (λ xs. here ++ counted_of_events most next e.1 ≡ journaled_among (u.line ∷ lines_of_events most e.1) xs (play w (map event_of xs)).0) (ok_same _ _ rest.2)
        (ap (λ xs. here ++ xs) (behind_it next e.1 rest.0 rest.1))
