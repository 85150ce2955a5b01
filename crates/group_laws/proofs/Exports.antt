-- What is exported is of two neighbouring cuts, and of the journals between them.
use Rattle.std.proofs.Common.{◌≡◌, ℕ, zero, suc, ◌<◌, ◌≤◌, true, List, [], ◌∷◌, ◌++◌, refl, sym, ap, subst, ◌∙◌, Option, Some, None, unwrap_or, Result, Ok, Err, ok_or, nat_lt, nat_le, is_some}
use Rattle.std.specs.Prelude.{slice_get, ◌==◌}
use Rattle.std.proofs.lemmas.Option.{same_Some, none-some}
use Rattle.metering_model.specs.FirstFailure.{◌>>=◌, holds_or}
use Rattle.metering_model.specs.declared.Refusal.{Refusal}
use Rattle.metering_model.specs.declared.Refusal.TheVariants.{NoNode, NoPacket, NotClosed, NoAgent, WrongSeq, AllClosed, NoBallot, Observer, NotKept}
use Rattle.metering_model.specs.Batch.{Batch}
use Rattle.metering_model.specs.BatchReading.{batch_in, is_same}
use Rattle.metering_model.specs.KeptText.{kept_text}
use Rattle.metering_model.specs.Sheet.{Sheet, Issuer}
use Rattle.metering_model.specs.Cut.{Cut, zero_cut, last_of, IsAtLeast}
use Rattle.metering_model.specs.Holding.{Holding, AgreeUpTo, held, put, placed, up_to}
use Rattle.metering_model.specs.JournalRules.{MeetsJournalRules, next_seq, first_broken}
use Rattle.metering_model.specs.Rows.{rows}
use Rattle.metering_model.specs.File.{file}
use Rattle.metering_model.specs.World.{World, Node, Packet, CarriesBatch, Offer, Good, Bad, Event, Journal, Deliver, Start, Restart, Export, Keep, Revive, KeptOffer, Snapshot, Exported, Delivered, voter_count, votes, current_period, wake, with_node_at, with_packet, next_packet}
use Rattle.metering_model.specs.Deliveries.{Handled, handled}
use Rattle.metering_model.specs.Step.{Outcome, on_batch, on_journal, on_delivery, on_start, on_restart, on_keep, on_revival, kept_of, kept_now, after_delivery, or_refused, or_bad_batch, unless_broken, first_missing, unless_missing, cut_before, snapshot, step, play}
use Rattle.metering_model.proofs.StepLaws.{step_ok, some_step, ok_same}
use Rattle.metering_model.proofs.RulesUpToCut.{MeetsJournalRules-up_to}
use Rattle.metering_model.proofs.MissingLaws.{held-up_to_where}
use Rattle.metering_model.proofs.PartLaws.{agree_where_held, IsPartOf-grown}
use Rattle.metering_model.proofs.HoldingLaws.{IsHolding-up_to, AgreeUpTo-up_to, same_up_to}
use Rattle.metering_model.proofs.AgreementLaws.{same_rows}
use Rattle.group_laws.specs.Headline.{IsExport}
use Rattle.group_laws.proofs.StepCases.{after, started, start_packet, journaling, IsKeptBySteps, step_kept}
use Rattle.group_laws.proofs.Forms.{HasForms, HasForms-step, readable, play_kept}
use Rattle.group_laws.proofs.Told.{ChosenIn, ChosenIn-more}
use Rattle.group_laws.proofs.Fits.{IsOf, IsOf-more, IsFitting, IsFitting-steps}
use Rattle.group_laws.proofs.Agreed.{the_cuts, chosen_cut, cut_goes_on, earlier_entry}

abbrev IsBefore : List Packet → ℕ → ℕ → ℕ → Cut → Type 0
IsBefore P N agents zero from = from ≡ zero_cut agents
IsBefore P N agents (suc r) from = ChosenIn P N r from

-- the snapshot is of chosen cuts, and of a holding that has every batch up to the later
pub record IsTaken (N : ℕ) (w : World) (s : Snapshot) : Type 0 where
  pub from : IsBefore w.packets N w.agents s.period s.from
  pub to : ChosenIn w.packets N s.period s.to
  pub sheet : s.sheet ≡ w.sheet
  pub issuer : s.issuer ≡ w.issuer
  pub holding : Holding
  pub of : IsOf w.journals holding
  pub whole : (agent seq : ℕ) → 0 < seq → seq ≤ last_of s.to agent → is_some (held holding agent seq) ≡ true
  pub batches : s.batches ≡ up_to s.to holding

-- ---- nothing is missing

none_from_ok : (o : Option (ℕ × ℕ)) (u : Unit {0}) → unless_missing o ≡ Ok u → o ≡ None
none_from_ok None u e = refl
none_from_ok (Some absent) u e = absurd (cc)

-- ---- a snapshot is taken

abbrev pub snapshot_of : World → Node → ℕ → Cut → Snapshot
snapshot_of w n p to = record { period = p; from = cut_before w.agents n.kept.learned p; to = to; batches = up_to to n.kept.holding; sheet = w.sheet; issuer = w.issuer }

taken : (N : ℕ) (w : World) → IsFitting N w → (i p : ℕ) (s : Snapshot) → snapshot w i p ≡ Ok s → IsTaken N w s
taken N w h i p s e =
    let one = some_step (slice_get w.nodes i) NoNode _ s e in
    let n : Node = one.0 in
    let two = some_step (slice_get n.kept.learned p) (NotClosed (current_period n)) _ s one.2 in
    let to : Cut = two.0 in
    let three = step_ok (unless_missing (first_missing n.kept.holding to)) _ s two.2 in
    subst (IsTaken N w) (ok_same {E = Refusal} (snapshot_of w n p to) s three.2) (record {
      from = before n one.1 p to two.1;
      to = (h.told.nodes i n one.1).chosen p to two.1;
      sheet = refl;
      issuer = refl;
      holding = n.kept.holding;
      of = (h.holdings i n one.1).of;
      whole = held-up_to_where n.kept.holding to (none_from_ok (first_missing n.kept.holding to) three.0 three.1);
      batches = refl;
    })
  where
    before : (n : Node) → slice_get w.nodes i ≡ Some n → (p : ℕ) (to : Cut) → slice_get n.kept.learned p ≡ Some to → IsBefore w.packets N w.agents p (cut_before w.agents n.kept.learned p)
    before n at zero to e = refl
    before n at (suc r) to e =
        let entry = earlier_entry n.kept.learned r to e in
        subst (ChosenIn w.packets N r) (sym (ap (λ o. unwrap_or o (zero_cut w.agents)) entry.1)) ((h.told.nodes i n at).chosen r entry.0 entry.1)

-- ---- and stays true of the world

IsBefore-more : (P : List Packet) (q : Packet) (N agents p : ℕ) (from : Cut) → IsBefore P N agents p from → IsBefore (P ++ q ∷ []) N agents p from
IsBefore-more P q N agents zero from h = h
IsBefore-more P q N agents (suc r) from h = ChosenIn-more P q N r from h

pub record Keeps (N : ℕ) (s : Snapshot) (w : World) : Type 0 where
  pub fitting : IsFitting N w
  pub taken : IsTaken N w s

module _ (N : ℕ) (s : Snapshot) where
  taken_after : (w : World) (i : ℕ) (n : Node) (o : Option Packet) → IsTaken N w s → IsTaken N (after w i n o) s
  taken_after w i n None t = record { from = t.from; to = t.to; sheet = t.sheet; issuer = t.issuer; holding = t.holding; of = t.of; whole = t.whole; batches = t.batches }
  taken_after w i n (Some q) t = record {
    from = IsBefore-more w.packets q N w.agents s.period s.from t.from;
    to = ChosenIn-more w.packets q N s.period s.to t.to;
    sheet = t.sheet;
    issuer = t.issuer;
    holding = t.holding;
    of = t.of;
    whole = t.whole;
    batches = t.batches;
  }

  taken_journaled : (w : World) (b : Batch) → IsFitting N w → IsTaken N w s → IsTaken N (journaling w b) s
  taken_journaled w b h t = record {
    from = IsBefore-more w.packets (CarriesBatch b) N w.agents s.period s.from t.from;
    to = ChosenIn-more w.packets (CarriesBatch b) N s.period s.to t.to;
    sheet = t.sheet;
    issuer = t.issuer;
    holding = t.holding;
    of = IsOf-more w.journals (put w.journals b) t.holding (IsPartOf-grown w.journals b h.rules.is_holding) t.of;
    whole = t.whole;
    batches = t.batches;
  }

  steps : IsKeptBySteps (IsFitting N)
  steps = IsFitting-steps N

  Keeps-steps : IsKeptBySteps (Keeps N s)
  Keeps-steps = record {
    journals = λ w b k next. record { fitting = steps.journals w b k.fitting next; taken = taken_journaled w b k.fitting k.taken };
    delivers = λ w i n q k may. record { fitting = steps.delivers w i n q k.fitting may; taken = taken_after w i (handled w i n q).node (handled w i n q).sends k.taken };
    starts = λ w i n k may. record { fitting = steps.starts w i n k.fitting may; taken = taken_after w i (started w i n) (Some (start_packet w i n)) k.taken };
    restarts = λ w i n k found. record { fitting = steps.restarts w i n k.fitting found; taken = taken_after w i (wake n.kept) None k.taken };
  }

-- ---- only an export is answered with a snapshot

pub record NeverExports (w : World) (r : Result Outcome Refusal) : Type 0 where
  pub never : (s : Snapshot) → (or_refused w r).0 ≡ Exported s → ⊥

refused : (w : World) (e : Refusal) → NeverExports w (Err e)
refused w e = record { never = λ s is. cc }

after_bind : (w : World) {A : Type 0} (r : Result A Refusal) (f : A → Result Outcome Refusal) → ((x : A) → NeverExports w (f x)) → NeverExports w (r >>= f)
after_bind w (Ok x) f h = h x
after_bind w (Err e) f h = refused w e

module _ (w : World) where
  batch_never : (b : Batch) → NeverExports w (on_batch w b)
  batch_never b =
      after_bind w (holds_or (nat_le b.agent w.agents) NoAgent) _ (λ u.
      after_bind w (holds_or (b.seq == next_seq w.journals b.agent) (WrongSeq (next_seq w.journals b.agent))) _ (λ u.
      after_bind w (unless_broken (first_broken w.sheet (put w.journals b) (placed b))) _ (λ u.
      after_bind w (next_packet w) _ (λ k. record { never = λ s is. cc }))))

  pub journal_never : (offer : Offer) → NeverExports w (on_journal w offer)
  journal_never (Good text) = after_bind w (or_bad_batch (batch_in text)) (on_batch w) batch_never
  journal_never (Bad fault) = refused w _

  handled_never : (i : ℕ) (x : Handled) → NeverExports w (after_delivery w i x)
  handled_never i x = by_sends x.sends
    where
      by_sends : (o : Option Packet) → NeverExports w (elim o [ None ↦ Ok (Delivered None x.learns, with_node_at i x.node w) | Some p ↦ next_packet w >>= λ k. Ok (Delivered (Some k) x.learns, with_packet p (with_node_at i x.node w)) ])
      by_sends None = record { never = λ s is. cc }
      by_sends (Some q) = after_bind w (next_packet w) _ (λ k. record { never = λ s is. cc })

  pub delivery_never : (k i : ℕ) → NeverExports w (on_delivery w k i)
  delivery_never k i =
      after_bind w (ok_or (slice_get w.packets k) NoPacket) _ (λ q.
      after_bind w (ok_or (slice_get w.nodes i) NoNode) _ (λ n. handled_never i (handled w i n q)))

  pub start_never : (i : ℕ) → NeverExports w (on_start w i)
  start_never i =
      after_bind w (ok_or (slice_get w.nodes i) NoNode) _ (λ n.
      after_bind w (holds_or (votes w i) Observer) _ (λ u.
      after_bind w (holds_or (nat_lt (current_period n) 1_200) AllClosed) _ (λ u.
      after_bind w (holds_or (nat_lt n.kept.round 10_000) NoBallot) _ (λ u.
      after_bind w (next_packet w) _ (λ k. record { never = λ s is. cc })))))

  pub restart_never : (i : ℕ) → NeverExports w (on_restart w i)
  restart_never i = after_bind w (ok_or (slice_get w.nodes i) NoNode) _ (λ n. record { never = λ s is. cc })

  pub keep_never : (i : ℕ) → NeverExports w (on_keep w i)
  keep_never i = after_bind w (ok_or (slice_get w.nodes i) NoNode) _ (λ n. record { never = λ s is. cc })

  pub revival_never : (i : ℕ) (offer : KeptOffer) → NeverExports w (on_revival w i offer)
  revival_never i offer =
      after_bind w (ok_or (slice_get w.nodes i) NoNode) _ (λ n.
      after_bind w (kept_of offer) _ (λ k.
      after_bind w (holds_or (is_same (kept_text k) (kept_text (kept_now w n))) NotKept) _ (λ u. record { never = λ s is. cc })))

  pub snapshot_of_reply : (r : Result Snapshot Refusal) (s : Snapshot) → (or_refused w (r >>= λ x. Ok (Exported x, w))).0 ≡ Exported s → r ≡ Ok s
  snapshot_of_reply (Ok x) s e = cc
  snapshot_of_reply (Err x) s e = absurd (cc)

  pub exported_taken : (N : ℕ) → IsFitting N w → (e : Event) (s : Snapshot) → (step w e).0 ≡ Exported s → IsTaken N w s
  exported_taken N h (Journal offer) s is = absurd ((journal_never offer).never s is)
  exported_taken N h (Deliver k i) s is = absurd ((delivery_never k i).never s is)
  exported_taken N h (Start i) s is = absurd ((start_never i).never s is)
  exported_taken N h (Restart i) s is = absurd ((restart_never i).never s is)
  exported_taken N h (Keep i) s is = absurd ((keep_never i).never s is)
  exported_taken N h (Revive i offer) s is = absurd ((revival_never i offer).never s is)
  exported_taken N h (Export i p) s is = taken N w h i p s (snapshot_of_reply (snapshot w i p) s is)

-- each snapshot among the replies of a run was taken
pub all_taken : (N : ℕ) (es : List Event) (w : World) → HasForms w → IsFitting N w → (k : ℕ) (s : Snapshot) → slice_get (play w es).0 k ≡ Some (Exported s) → IsTaken N (play w es).1 s
all_taken N [] w forms h k s e = absurd (none-some _ e)
all_taken N (e ∷ es) w forms h zero s is =
    let now = exported_taken w N h e s (same_Some _ _ is) in
    let begun : Keeps N s w = record { fitting = h; taken = now } in
    (play_kept (Keeps N s) (Keeps-steps N s) (e ∷ es) w forms begun).taken
all_taken N (e ∷ es) w forms h (suc k) s is = all_taken N es (step w e).1 (HasForms-step w forms e) (step_kept (IsFitting N) (IsFitting-steps N) w (readable w forms) h e) k s is

-- ---- so it is an export of the journals

module _ (w : World) (h : IsFitting (voter_count w) w) (s : Snapshot) (t : IsTaken (voter_count w) w s) where
  cut : slice_get (the_cuts w h) s.period ≡ Some s.to
  cut = chosen_cut w h s.period s.to t.to

  from_is : s.from ≡ cut_before w.agents (the_cuts w h) s.period
  from_is = by_period s.period t.from
    where
      by_period : (p : ℕ) → IsBefore w.packets (voter_count w) w.agents p s.from → s.from ≡ cut_before w.agents (the_cuts w h) p
      by_period zero e = e
      by_period (suc r) was = sym (ap (λ o. unwrap_or o (zero_cut w.agents)) (chosen_cut w h r s.from was))

  grows : IsAtLeast s.to s.from
  grows = subst (λ from. IsAtLeast s.to from) (sym from_is) (cut_goes_on w h s.period s.to cut).grows

  same_held : AgreeUpTo s.to t.holding w.journals
  same_held = agree_where_held t.holding w.journals s.to t.of.is_holding h.rules.is_holding t.of.part t.whole

  same_batches : s.batches ≡ up_to s.to w.journals
  same_batches = t.batches ∙ same_up_to s.to t.holding w.journals t.of.is_holding h.rules.is_holding same_held

  same_rules : MeetsJournalRules s.sheet s.batches
  same_rules = subst (λ (x : Sheet). MeetsJournalRules x s.batches) (sym t.sheet) (subst (MeetsJournalRules w.sheet) (sym same_batches) (MeetsJournalRules-up_to w.sheet s.to w.journals h.rules))

  same_file : file (rows s.sheet s.issuer s.batches s.period s.from s.to) ≡ file (rows w.sheet w.issuer w.journals s.period s.from s.to)
  same_file =
      ap (λ (x : Sheet). file (rows x s.issuer s.batches s.period s.from s.to)) t.sheet
      ∙ (ap (λ (x : Issuer). file (rows w.sheet x s.batches s.period s.from s.to)) t.issuer
      ∙ (ap (λ (x : Holding). file (rows w.sheet w.issuer x s.period s.from s.to)) same_batches
      ∙ ap file (same_rows w.sheet w.issuer (up_to s.to w.journals) w.journals s.period s.from s.to (IsHolding-up_to w.journals s.to h.rules.is_holding) h.rules.is_holding (AgreeUpTo-up_to s.to w.journals) grows)))

  pub is_export : IsExport w (the_cuts w h) s
  is_export = record { from = from_is; to = cut; sheet = t.sheet; issuer = t.issuer; batches = same_batches; rules = same_rules; file = same_file }

-- snapshots of the same parts are one
same_snapshot : (s t : Snapshot) → s.period ≡ t.period → s.from ≡ t.from → s.to ≡ t.to → s.batches ≡ t.batches → s.sheet ≡ t.sheet → s.issuer ≡ t.issuer → s ≡ t
same_snapshot s t period from to batches sheet issuer =
    ap (λ p. record s { period = p }) period
    ∙ (ap (λ x. record s { period = t.period; from = x }) from
    ∙ (ap (λ x. record s { period = t.period; from = t.from; to = x }) to
    ∙ (ap (λ x. record t { batches = x; sheet = s.sheet; issuer = s.issuer }) batches
    ∙ (ap (λ x. record t { sheet = x; issuer = s.issuer }) sheet
    ∙ ap (λ x. record t { issuer = x }) issuer))))

-- two exports of one period are the same
pub one_export : (w : World) (cuts : List Cut) (s t : Snapshot) → IsExport w cuts s → IsExport w cuts t → s.period ≡ t.period → s ≡ t
one_export w cuts s t x y same =
    let to : s.to ≡ t.to = same_Some s.to t.to (sym x.to ∙ (ap (slice_get cuts) same ∙ y.to)) in
    let from : s.from ≡ t.from = x.from ∙ (ap (cut_before w.agents cuts) same ∙ sym y.from) in
    let batches : s.batches ≡ t.batches = x.batches ∙ (ap (λ c. up_to c w.journals) to ∙ sym y.batches) in
    let sheet : s.sheet ≡ t.sheet = x.sheet ∙ sym y.sheet in
    let issuer : s.issuer ≡ t.issuer = x.issuer ∙ sym y.issuer in
    same_snapshot s t same from to batches sheet issuer
