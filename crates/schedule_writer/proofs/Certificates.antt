-- What a run that was seen whole has shown.
use Rattle.std.proofs.Common.{◌≡◌, ◌<◌, ◌≤◌, ℕ, zero, suc, ◌+◌, ◌&&◌, nat_lt, Bool, true, false, cond, nat_eq, nat_le, List, [], ◌∷◌, ◌++◌, length, take, map, All, Option, Some, None, refl, sym, ap, ap₂, subst, ◌∙◌, arith, append_assoc, get_or}
use Rattle.std.specs.Prelude.{IfSome, filter, not}
use Rattle.std.specs.List.{flat_map, range_with_len, slice_get}
use Rattle.std.specs.Option.{option_map_or, unwrap_or}
use Rattle.std.proofs.lemmas.Grind.{flat_map-append}
use Rattle.std.proofs.lemmas.Option.{option_and_then_some, slice_get_past}
use Rattle.std.proofs.lemmas.List.{append-nil, length-append, take_more}
use Rattle.std.proofs.lemmas.List.Elements.{All-cons, All-nil}
use Rattle.std.proofs.lemmas.List.Folds.{flat_map-map}
use Rattle.std.proofs.lemmas.List.FromFn.{map-range_with_len_more}
use Rattle.std.proofs.lemmas.Bool.{eqb-true, leb-true, ltb-false, ltb-true}
use Rattle.metering_model.specs.BatchReading.{is_same}
use Rattle.metering_model.specs.Front.{front}
use Rattle.metering_model.specs.Holding.{Holding}
use Rattle.metering_model.specs.Schedule.{Planned, PlansJournal, PlansDelivery, PlansStart, PlansRestart, PlansExport, PlansKeep, PlansRevival, event_of, lines_text}
use Rattle.metering_model.specs.Step.{play, step}
use Rattle.metering_model.specs.World.{World, Reply, Snapshot, Journaled, Delivered, Started, Restarted, Exported, KeptText, Refused}
use Rattle.metering_model.proofs.FieldLaws.{same_read}
use Rattle.group_events.specs.Replies.{is_refused}
use Rattle.schedule_writer.specs.declared.plans.Seen.{Seen}
use Rattle.schedule_writer.specs.Schedules.{exports_of, files_before, files_of, is_needed, is_start, journals_of, learned_in}
use Rattle.schedule_writer.specs.Inner.Plans.{Plan, all_seen, behind, behind_all, behind_taken, due_for, is_file_of, is_good, is_next, is_turn, one_more_ballot, one_more_batch, one_more_file}

-- ---- what a test says

some_is : {A : Type 0} (x y : A) → Some x ≡ Some y → x ≡ y
some_is x y is = ap (λ o. unwrap_or o x) is

none_is : {A B : Type 0} (y : A) → ◌≡◌ {A = Option A} None (Some y) → B
none_is y is = absurd (cc)

if_good : {A : Type 0} (b : Bool) (o : Option A) (x : A) → cond b o None ≡ Some x → (b ≡ true) × (o ≡ Some x)
if_good true o x is = (refl, is)
if_good false o x is = absurd (cc)

if_so : {A : Type 0} (b : Bool) (y x : A) → cond b (Some y) None ≡ Some x → (b ≡ true) × (y ≡ x)
if_so b y x is = let good = if_good b (Some y) x is in (good.0, some_is y x good.1)

both_true : (a b : Bool) → (a && b) ≡ true → (a ≡ true) × (b ≡ true)
both_true true b is = (refl, is)
both_true false b is = absurd (cc)

not_true : (b : Bool) → not b ≡ true → b ≡ false
not_true true is = absurd (cc)
not_true false is = refl

-- ---- one event

-- the event was taken, and this was done behind it
is_taken : (plan : Plan) (seen next : Seen) (h : Holding) (r : Reply) (e : Planned) → behind plan seen h r e ≡ Some next
    → (is_good plan seen r ≡ true) × (behind_taken plan seen h r e ≡ Some next)
is_taken plan seen next h r e is = if_good (is_good plan seen r) (behind_taken plan seen h r e) next is

-- where a period was learned by it, just the batches above its close were journaled
is_learned : (plan : Plan) (seen next : Seen) (h : Holding) (r : Reply) (e : Planned) (sent : Option ℕ) (period : ℕ) → behind plan seen h r e ≡ Some next
    → r ≡ Delivered sent (Some period) → seen.journaled ≡ due_for plan period
is_learned plan seen next h r e sent period is learns =
    let good = sym (ap (is_good plan seen) learns) ∙ (is_taken plan seen next h r e is).0 in
    eqb-true seen.journaled (due_for plan period) (both_true (nat_le period plan.last) (nat_eq seen.journaled (due_for plan period)) good).1

file_keeps : (b : Bool) (seen : Seen)
    → (seen.journaled ≡ (cond b (record seen { node = seen.node + 1 }) (record seen { node = 0; period = seen.period + 1 })).journaled)
    × (seen.ballots ≡ (cond b (record seen { node = seen.node + 1 }) (record seen { node = 0; period = seen.period + 1 })).ballots)
file_keeps true seen = (refl, refl)
file_keeps false seen = (refl, refl)

record HasTurn (plan : Plan) (seen : Seen) (node period : ℕ) : Type 0 where
  node_is : node ≡ seen.node
  within : node < plan.nodes
  period_is : period ≡ seen.period
  last : period ≤ plan.last
  due : seen.journaled ≡ due_for plan period

has_turn : (plan : Plan) (seen : Seen) (node period : ℕ) → is_turn plan seen node period ≡ true → HasTurn plan seen node period
has_turn plan seen node period is =
    let a = both_true (nat_eq node seen.node && nat_lt node plan.nodes && nat_eq period seen.period && nat_le period plan.last) (nat_eq seen.journaled (due_for plan period)) is in
    let b = both_true (nat_eq node seen.node && nat_lt node plan.nodes && nat_eq period seen.period) (nat_le period plan.last) a.0 in
    let d = both_true (nat_eq node seen.node && nat_lt node plan.nodes) (nat_eq period seen.period) b.0 in
    let e = both_true (nat_eq node seen.node) (nat_lt node plan.nodes) d.0 in
    record {
      node_is = eqb-true node seen.node e.0;
      within = ltb-true node plan.nodes e.1;
      period_is = eqb-true period seen.period d.1;
      last = leb-true period plan.last b.1;
      due = eqb-true seen.journaled (due_for plan period) a.1;
    }

-- the turn at which a file is shown
turn_of : (plan : Plan) (seen next : Seen) (h : Holding) (r : Reply) (node period : ℕ) → behind_taken plan seen h r (PlansExport node period) ≡ Some next
    → HasTurn plan seen node period × (is_file_of plan.base h period r ≡ true) × (one_more_file plan seen ≡ next)
turn_of plan seen next h r node period is =
    let so = if_so (is_turn plan seen node period && is_file_of plan.base h period r) (one_more_file plan seen) next is in
    let both = both_true (is_turn plan seen node period) (is_file_of plan.base h period r) so.0 in
    (has_turn plan seen node period both.0, both.1, so.1)

-- ---- the journals

one_batch : (plan : Plan) (seen next : Seen) (text : List ℕ) → cond (is_next plan seen text) (Some (one_more_batch seen)) None ≡ Some next
    → take next.journaled plan.batches ≡ take seen.journaled plan.batches ++ text ∷ []
one_batch plan seen next text is =
    let so = if_so (is_next plan seen text) (one_more_batch seen) next is in
    let both = both_true (nat_lt seen.journaled (length plan.batches)) (is_same (get_or plan.batches seen.journaled []) text) so.0 in
    ap (λ s. take s.journaled plan.batches) (sym so.1)
    ∙ (take_more plan.batches seen.journaled [] (ltb-true seen.journaled (length plan.batches) both.0)
    ∙ ap (λ t. take seen.journaled plan.batches ++ t ∷ []) (same_read (get_or plan.batches seen.journaled []) text both.1))

-- an event that journals nothing leaves as many batches journaled as there were, and a ballot begins at a start alone
same_count : (plan : Plan) (seen next : Seen) (h : Holding) (r : Reply) (e : Planned) → behind_taken plan seen h r e ≡ Some next
    → (seen.journaled + length (journals_of (e ∷ [])) ≡ next.journaled) × (seen.ballots + length (filter is_start (e ∷ [])) ≡ next.ballots)
same_count plan seen next h r (PlansJournal ls) is =
    let so = if_so (is_next plan seen (lines_text ls)) (one_more_batch seen) next is in
    (ap (λ s. s.journaled) so.1, none_more seen.ballots ∙ ap (λ s. s.ballots) so.1)
  where
    none_more : (n : ℕ) → n + 0 ≡ n
    none_more n = omega arith
same_count plan seen next h r (PlansExport i p) is =
    let turn = turn_of plan seen next h r i p is in
    let kept = file_keeps (nat_lt (seen.node + 1) plan.nodes) seen in
    (none_more seen.journaled ∙ (kept.0 ∙ ap (λ s. s.journaled) turn.2), none_more seen.ballots ∙ (kept.1 ∙ ap (λ s. s.ballots) turn.2))
  where
    none_more : (n : ℕ) → n + 0 ≡ n
    none_more n = omega arith
same_count plan seen next h r (PlansDelivery k i) is =
    (none_more seen.journaled ∙ ap (λ s. s.journaled) (some_is seen next is), none_more seen.ballots ∙ ap (λ s. s.ballots) (some_is seen next is))
  where
    none_more : (n : ℕ) → n + 0 ≡ n
    none_more n = omega arith
same_count plan seen next h r (PlansStart i) is =
    let so = if_so (nat_le seen.ballots plan.last) (one_more_ballot seen) next is in
    (none_more seen.journaled ∙ ap (λ s. s.journaled) so.1, ap (λ s. s.ballots) so.1)
  where
    none_more : (n : ℕ) → n + 0 ≡ n
    none_more n = omega arith
same_count plan seen next h r (PlansRestart i) is = none_is next is
same_count plan seen next h r (PlansKeep i) is = none_is next is
same_count plan seen next h r (PlansRevival i ls) is = none_is next is

same_taken : (plan : Plan) (seen next : Seen) → seen.journaled ≡ next.journaled → take seen.journaled plan.batches ++ [] ≡ take next.journaled plan.batches
same_taken plan seen next same = append-nil (take seen.journaled plan.batches) ∙ ap (λ n. take n plan.batches) same

no_more : (n m : ℕ) → n + 0 ≡ m → n ≡ m
no_more n m is = omega arith

one_journal : (plan : Plan) (seen next : Seen) (h : Holding) (r : Reply) (e : Planned) → behind_taken plan seen h r e ≡ Some next
    → take seen.journaled plan.batches ++ journals_of (e ∷ []) ≡ take next.journaled plan.batches
one_journal plan seen next h r (PlansJournal ls) is = sym (one_batch plan seen next (lines_text ls) is)
one_journal plan seen next h r (PlansExport i p) is = same_taken plan seen next (no_more _ _ (same_count plan seen next h r (PlansExport i p) is).0)
one_journal plan seen next h r (PlansDelivery k i) is = same_taken plan seen next (no_more _ _ (same_count plan seen next h r (PlansDelivery k i) is).0)
one_journal plan seen next h r (PlansStart i) is = same_taken plan seen next (no_more _ _ (same_count plan seen next h r (PlansStart i) is).0)
one_journal plan seen next h r (PlansRestart i) is = none_is next is
one_journal plan seen next h r (PlansKeep i) is = none_is next is
one_journal plan seen next h r (PlansRevival i ls) is = none_is next is

journals_split : (e : Planned) (es : List Planned) → journals_of (e ∷ es) ≡ journals_of (e ∷ []) ++ journals_of es
journals_split (PlansJournal ls) es = refl
journals_split (PlansExport i p) es = refl
journals_split (PlansDelivery k i) es = refl
journals_split (PlansStart i) es = refl
journals_split (PlansRestart i) es = refl
journals_split (PlansKeep i) es = refl
journals_split (PlansRevival i ls) es = refl

-- ---- the files

-- whose files were shown
pub shown : Plan → Seen → List (ℕ × ℕ)
shown plan seen = files_before plan.nodes seen.period ++ files_of seen.node seen.period

abbrev same : ℕ → ℕ
same n = n

abbrev pair : ℕ → ℕ → ℕ × ℕ
pair period node = (node, period)

period_more : (nodes period : ℕ) → files_before nodes (period + 1) ≡ files_before nodes period ++ files_of nodes period
period_more nodes period =
    sym (flat_map-map (files_of nodes) same (range_with_len 0 (period + 1)))
    ∙ (ap (flat_map (files_of nodes)) (map-range_with_len_more same 0 period period (omega arith))
    ∙ (flat_map-append (files_of nodes) (map same (range_with_len 0 period)) (period ∷ [])
    ∙ ap₂ (λ xs ys. xs ++ ys) (flat_map-map (files_of nodes) same (range_with_len 0 period)) (append-nil (files_of nodes period))))

node_more : (node period : ℕ) → files_of (node + 1) period ≡ files_of node period ++ (node, period) ∷ []
node_more node period = map-range_with_len_more (pair period) 0 node node (omega arith)

one_file : (plan : Plan) (seen : Seen) (b : Bool) → nat_lt (seen.node + 1) plan.nodes ≡ b → seen.node < plan.nodes
    → shown plan seen ++ (seen.node, seen.period) ∷ []
    ≡ shown plan (cond b (record seen { node = seen.node + 1 }) (record seen { node = 0; period = seen.period + 1 }))
unfolding shown
one_file plan seen true is within =
    append_assoc (files_before plan.nodes seen.period) (files_of seen.node seen.period) ((seen.node, seen.period) ∷ [])
    ∙ ap (λ t. files_before plan.nodes seen.period ++ t) (sym (node_more seen.node seen.period))
one_file plan seen false is within =
    let few : plan.nodes ≤ seen.node + 1 = ltb-false (seen.node + 1) plan.nodes is in
    let all : seen.node + 1 ≡ plan.nodes = omega arith in
    append_assoc (files_before plan.nodes seen.period) (files_of seen.node seen.period) ((seen.node, seen.period) ∷ [])
    ∙ (ap (λ t. files_before plan.nodes seen.period ++ t) (sym (node_more seen.node seen.period) ∙ ap (λ n. files_of n seen.period) all)
    ∙ (sym (period_more plan.nodes seen.period) ∙ sym (append-nil (files_before plan.nodes (seen.period + 1)))))

same_shown : (plan : Plan) (seen next : Seen) → seen.node ≡ next.node → seen.period ≡ next.period → shown plan seen ++ [] ≡ shown plan next
unfolding shown
same_shown plan seen next node period =
    append-nil (shown plan seen)
    ∙ ap₂ (λ n p. files_before plan.nodes p ++ files_of n p) node period

one_export : (plan : Plan) (seen next : Seen) (h : Holding) (r : Reply) (e : Planned) → behind_taken plan seen h r e ≡ Some next
    → shown plan seen ++ exports_of (e ∷ []) ≡ shown plan next
one_export plan seen next h r (PlansExport i p) is =
    let turn = turn_of plan seen next h r i p is in
    let within : seen.node < plan.nodes = subst (λ n. n < plan.nodes) turn.0.node_is turn.0.within in
    ap₂ (λ n q. shown plan seen ++ (n, q) ∷ []) turn.0.node_is turn.0.period_is
    ∙ (one_file plan seen (nat_lt (seen.node + 1) plan.nodes) refl within ∙ ap (shown plan) turn.2)
one_export plan seen next h r (PlansJournal ls) is =
    let so = if_so (is_next plan seen (lines_text ls)) (one_more_batch seen) next is in
    same_shown plan seen next (ap (λ s. s.node) so.1) (ap (λ s. s.period) so.1)
one_export plan seen next h r (PlansDelivery k i) is = same_shown plan seen next (ap (λ s. s.node) (some_is seen next is)) (ap (λ s. s.period) (some_is seen next is))
one_export plan seen next h r (PlansStart i) is =
    let so = if_so (nat_le seen.ballots plan.last) (one_more_ballot seen) next is in
    same_shown plan seen next (ap (λ s. s.node) so.1) (ap (λ s. s.period) so.1)
one_export plan seen next h r (PlansRestart i) is = none_is next is
one_export plan seen next h r (PlansKeep i) is = none_is next is
one_export plan seen next h r (PlansRevival i ls) is = none_is next is

exports_split : (e : Planned) (es : List Planned) → exports_of (e ∷ es) ≡ exports_of (e ∷ []) ++ exports_of es
exports_split (PlansJournal ls) es = refl
exports_split (PlansExport i p) es = refl
exports_split (PlansDelivery k i) es = refl
exports_split (PlansStart i) es = refl
exports_split (PlansRestart i) es = refl
exports_split (PlansKeep i) es = refl
exports_split (PlansRevival i ls) es = refl

-- ---- all events

-- what was done grows by what each event adds
grown : {A : Type 0} (done done_next : List A) (one rest whole last : List A) → done ++ one ≡ done_next → whole ≡ one ++ rest → done_next ++ rest ≡ last
    → done ++ whole ≡ last
grown done done_next one rest whole last here split behind =
    ap (λ t. done ++ t) split ∙ (sym (append_assoc done one rest) ∙ (ap (λ t. t ++ rest) here ∙ behind))

pub journals : (plan : Plan) (seen last : Seen) (w : World) (es : List Planned) → behind_all plan seen w es ≡ Some last
    → take seen.journaled plan.batches ++ journals_of es ≡ take last.journaled plan.batches
unfolding behind_all
journals plan seen last w [] is = append-nil (take seen.journaled plan.batches) ∙ ap (λ s. take s.journaled plan.batches) (some_is seen last is)
journals plan seen last w (e ∷ es) is =
    option_and_then_some (λ next. behind_all plan next (step w (event_of e)).1 es) (behind plan seen w.journals (step w (event_of e)).0 e) last is
    (λ next one rest. grown _ _ _ _ _ _ (one_journal plan seen next _ _ e (is_taken plan seen next _ _ e one).1) (journals_split e es)
    (journals plan next last (step w (event_of e)).1 es rest))

pub exports : (plan : Plan) (seen last : Seen) (w : World) (es : List Planned) → behind_all plan seen w es ≡ Some last
    → shown plan seen ++ exports_of es ≡ shown plan last
unfolding behind_all
exports plan seen last w [] is = append-nil (shown plan seen) ∙ ap (shown plan) (some_is seen last is)
exports plan seen last w (e ∷ es) is =
    option_and_then_some (λ next. behind_all plan next (step w (event_of e)).1 es) (behind plan seen w.journals (step w (event_of e)).0 e) last is
    (λ next one rest. grown _ _ _ _ _ _ (one_export plan seen next _ _ e (is_taken plan seen next _ _ e one).1) (exports_split e es)
    (exports plan next last (step w (event_of e)).1 es rest))

pub all_exports : (nodes last batches : ℕ) (plan : Plan) (es : List Planned) → plan.nodes ≡ nodes → plan.last ≡ last
    → shown plan (record { journaled = 0; ballots = 0; node = 0; period = 0 }) ++ exports_of es ≡ shown plan (all_seen plan)
    → exports_of es ≡ files_before nodes (last + 1)
unfolding shown
all_exports nodes last batches plan es are upto is =
    is ∙ (append-nil (files_before plan.nodes (plan.last + 1)) ∙ ap₂ (λ n p. files_before n (p + 1)) are upto)

start_split : (e : Planned) (es : List Planned) → length (filter is_start (e ∷ es)) ≡ length (filter is_start (e ∷ [])) + length (filter is_start es)
start_split (PlansJournal ls) es = omega arith
start_split (PlansExport i p) es = omega arith
start_split (PlansDelivery k i) es = omega arith
start_split (PlansStart i) es = omega arith
start_split (PlansRestart i) es = omega arith
start_split (PlansKeep i) es = omega arith
start_split (PlansRevival i ls) es = omega arith

more_in_all : (a b c d e f : ℕ) → a + b ≡ c → d ≡ b + e → c + e ≡ f → a + d ≡ f
more_in_all a b c d e f one split rest = omega (arith, one, split, rest)

pub ballots : (plan : Plan) (seen last : Seen) (w : World) (es : List Planned) → behind_all plan seen w es ≡ Some last
    → seen.ballots + length (filter is_start es) ≡ last.ballots
unfolding behind_all
ballots plan seen last w [] is = let same = ap (λ s. s.ballots) (some_is seen last is) in omega (arith, same)
ballots plan seen last w (e ∷ es) is =
    option_and_then_some (λ next. behind_all plan next (step w (event_of e)).1 es) (behind plan seen w.journals (step w (event_of e)).0 e) last is
    (λ next one rest. more_in_all _ _ _ _ _ _ (same_count plan seen next _ _ e (is_taken plan seen next _ _ e one).1).1 (start_split e es)
    (ballots plan next last (step w (event_of e)).1 es rest))

one_needed : (plan : Plan) (seen next : Seen) (h : Holding) (r : Reply) (e : Planned) → behind_taken plan seen h r e ≡ Some next → is_needed e ≡ true
one_needed plan seen next h r (PlansJournal ls) is = refl
one_needed plan seen next h r (PlansExport i p) is = refl
one_needed plan seen next h r (PlansDelivery k i) is = refl
one_needed plan seen next h r (PlansStart i) is = refl
one_needed plan seen next h r (PlansRestart i) is = none_is next is
one_needed plan seen next h r (PlansKeep i) is = none_is next is
one_needed plan seen next h r (PlansRevival i ls) is = none_is next is

pub needed : (plan : Plan) (seen last : Seen) (w : World) (es : List Planned) → behind_all plan seen w es ≡ Some last → All (λ e. is_needed e ≡ true) es
unfolding behind_all
needed plan seen last w [] is = All-nil (λ e. is_needed e ≡ true)
needed plan seen last w (e ∷ es) is =
    option_and_then_some (λ next. behind_all plan next (step w (event_of e)).1 es) (behind plan seen w.journals (step w (event_of e)).0 e) last is
    (λ next one rest. All-cons (λ d. is_needed d ≡ true) e es (one_needed plan seen next _ _ e (is_taken plan seen next _ _ e one).1)
    (needed plan next last (step w (event_of e)).1 es rest))

-- ---- the replies

pub IsGood : ℕ → Reply → Type 0
IsGood last r = (is_refused r ≡ false) × IfSome (learned_in r) (λ period. period ≤ last)

within_last : (plan : Plan) (seen : Seen) (o : Option ℕ) → option_map_or (λ period. nat_le period plan.last && nat_eq seen.journaled (due_for plan period)) o true ≡ true
    → IfSome o (λ period. period ≤ plan.last)
within_last plan seen (Some period) is = leb-true period plan.last (both_true (nat_le period plan.last) (nat_eq seen.journaled (due_for plan period)) is).0
within_last plan seen None is = _

good : (plan : Plan) (seen : Seen) (r : Reply) → is_good plan seen r ≡ true → IsGood plan.last r
unfolding IsGood
good plan seen r is =
    let both = both_true (not (is_refused r)) (option_map_or (λ period. nat_le period plan.last && nat_eq seen.journaled (due_for plan period)) (learned_in r) true) is in
    (not_true (is_refused r) both.0, within_last plan seen (learned_in r) both.1)

pub all_good : (plan : Plan) (seen last : Seen) (w : World) (es : List Planned) → behind_all plan seen w es ≡ Some last
    → All (IsGood plan.last) (play w (map event_of es)).0
unfolding behind_all
all_good plan seen last w [] is = All-nil (IsGood plan.last)
all_good plan seen last w (e ∷ es) is =
    option_and_then_some (λ next. behind_all plan next (step w (event_of e)).1 es) (behind plan seen w.journals (step w (event_of e)).0 e) last is
    (λ next one rest. All-cons (IsGood plan.last) (step w (event_of e)).0 (play (step w (event_of e)).1 (map event_of es)).0
    (good plan seen _ (is_taken plan seen next _ _ e one).0) (all_good plan next last (step w (event_of e)).1 es rest))

pub good_is : (last : ℕ) (r : Reply) → IsGood last r → (is_refused r ≡ false) × IfSome (learned_in r) (λ period. period ≤ last)
unfolding IsGood
good_is last r is = is

-- ---- how many batches are journaled before a file is shown

pub due : (plan : Plan) (seen last : Seen) (w : World) (es : List Planned) → behind_all plan seen w es ≡ Some last
    → (place node period : ℕ) → slice_get es place ≡ Some (PlansExport node period) → seen.journaled + length (journals_of (take place es)) ≡ due_for plan period
unfolding behind_all
due plan seen last w [] is place node period asks = let past = slice_get_past {X = Planned} [] place (omega arith) in let bad = sym past ∙ asks in absurd (cc)
due plan seen last w (e ∷ es) is zero node period asks =
    option_and_then_some (λ next. behind_all plan next (step w (event_of e)).1 es) (behind plan seen w.journals (step w (event_of e)).0 e) last is
    (λ next one rest.
    let taken : behind_taken plan seen w.journals (step w (event_of e)).0 (PlansExport node period) ≡ Some next
    = subst (λ x. behind_taken plan seen w.journals (step w (event_of e)).0 x ≡ Some next) (some_is e (PlansExport node period) asks) (is_taken plan seen next _ _ e one).1 in
    let is_due = (turn_of plan seen next w.journals (step w (event_of e)).0 node period taken).0.due in
    omega (arith, is_due))
due plan seen last w (e ∷ es) is (suc k) node period asks =
    option_and_then_some (λ next. behind_all plan next (step w (event_of e)).1 es) (behind plan seen w.journals (step w (event_of e)).0 e) last is
    (λ next one rest. more_in_all _ _ _ _ _ _ (same_count plan seen next _ _ e (is_taken plan seen next _ _ e one).1).0
    (ap length (journals_split e (take k es)) ∙ length-append (journals_of (e ∷ [])) (journals_of (take k es)))
    (due plan next last (step w (event_of e)).1 es rest k node period asks))

-- ---- how many are journaled where a period is learned

pub learned : (plan : Plan) (seen last : Seen) (w : World) (es : List Planned) → behind_all plan seen w es ≡ Some last
    → (place period : ℕ) (sent : Option ℕ) → slice_get (play w (map event_of es)).0 place ≡ Some (Delivered sent (Some period))
    → seen.journaled + length (journals_of (take place es)) ≡ due_for plan period
unfolding behind_all
learned plan seen last w [] is place period sent learns = let past = slice_get_past {X = Reply} [] place (omega arith) in let bad = sym past ∙ learns in absurd (cc)
learned plan seen last w (e ∷ es) is zero period sent learns =
    option_and_then_some (λ next. behind_all plan next (step w (event_of e)).1 es) (behind plan seen w.journals (step w (event_of e)).0 e) last is
    (λ next one rest.
    let is_due = is_learned plan seen next w.journals (step w (event_of e)).0 e sent period one (some_is (step w (event_of e)).0 (Delivered sent (Some period)) learns) in
    omega (arith, is_due))
learned plan seen last w (e ∷ es) is (suc k) period sent learns =
    option_and_then_some (λ next. behind_all plan next (step w (event_of e)).1 es) (behind plan seen w.journals (step w (event_of e)).0 e) last is
    (λ next one rest. more_in_all _ _ _ _ _ _ (same_count plan seen next _ _ e (is_taken plan seen next _ _ e one).1).0
    (ap length (journals_split e (take k es)) ∙ length-append (journals_of (e ∷ [])) (journals_of (take k es)))
    (learned plan next last (step w (event_of e)).1 es rest k period sent learns))

-- ---- which files are shown

-- the export at a place is answered by the file of the period, with what is journaled by then, of each agent up to its first batch
-- that is not due
pub record IsShown (base : ℕ) (w : World) (es : List Planned) (place period : ℕ) : Type 0 where
  pub snapshot : Snapshot
  pub answers : slice_get (play w (map event_of es)).0 place ≡ Some (Exported snapshot)
  pub is_of : snapshot.period ≡ period
  pub cut : snapshot.to ≡ front base (play w (map event_of (take place es))).1.journals snapshot.from period

file_shown : (base : ℕ) (h : Holding) (p : ℕ) (r : Reply) → is_file_of base h p r ≡ true
    → (s : Snapshot) × (r ≡ Exported s) × (s.period ≡ p) × (s.to ≡ front base h s.from p)
file_shown base h p (Exported s) is =
    let both = both_true (nat_eq s.period p) (is_same s.to (front base h s.from p)) is in
    (s, refl, eqb-true s.period p both.0, same_read s.to (front base h s.from p) both.1)
file_shown base h p (Journaled k) is = absurd (cc)
file_shown base h p (Delivered sent learned) is = absurd (cc)
file_shown base h p (Started ballot k) is = absurd (cc)
file_shown base h p Restarted is = absurd (cc)
file_shown base h p (KeptText text) is = absurd (cc)
file_shown base h p (Refused why) is = absurd (cc)

shown_now : (base : ℕ) (w : World) (e : Planned) (es : List Planned) (p : ℕ) → is_file_of base w.journals p (step w (event_of e)).0 ≡ true → IsShown base w (e ∷ es) 0 p
shown_now base w e es p is =
    let file = file_shown base w.journals p (step w (event_of e)).0 is in
    record { snapshot = file.0; answers = ap Some file.1; is_of = file.2; cut = file.3 }

shown_later : (base : ℕ) (w : World) (e : Planned) (es : List Planned) (place p : ℕ) → IsShown base (step w (event_of e)).1 es place p → IsShown base w (e ∷ es) (suc place) p
shown_later base w e es place p is = record { snapshot = is.snapshot; answers = is.answers; is_of = is.is_of; cut = is.cut }

pub closed : (plan : Plan) (seen last : Seen) (w : World) (es : List Planned) → behind_all plan seen w es ≡ Some last
    → (place node period : ℕ) → slice_get es place ≡ Some (PlansExport node period) → IsShown plan.base w es place period
unfolding behind_all
closed plan seen last w [] is place node period asks = let past = slice_get_past {X = Planned} [] place (omega arith) in let bad = sym past ∙ asks in absurd (cc)
closed plan seen last w (e ∷ es) is zero node period asks =
    option_and_then_some (λ next. behind_all plan next (step w (event_of e)).1 es) (behind plan seen w.journals (step w (event_of e)).0 e) last is
    (λ next one rest.
    let taken : behind_taken plan seen w.journals (step w (event_of e)).0 (PlansExport node period) ≡ Some next
    = subst (λ x. behind_taken plan seen w.journals (step w (event_of e)).0 x ≡ Some next) (some_is e (PlansExport node period) asks) (is_taken plan seen next _ _ e one).1 in
    shown_now plan.base w e es period (turn_of plan seen next w.journals (step w (event_of e)).0 node period taken).1)
closed plan seen last w (e ∷ es) is (suc k) node period asks =
    option_and_then_some (λ next. behind_all plan next (step w (event_of e)).1 es) (behind plan seen w.journals (step w (event_of e)).0 e) last is
    (λ next one rest. shown_later plan.base w e es k period (closed plan next last (step w (event_of e)).1 es rest k node period asks))
