-- The journal of an agent: which sequences it has, and one batch more.
use Rattle.std.proofs.Common.{◌≡◌, ℕ, suc, ◌+◌, ◌<◌, ◌≤◌, Bool, true, false, List, [], ◌∷◌, length, refl, sym, ap, subst, ◌∙◌, arith, Option, Some, None, Ok, Err, inl, inr}
use Rattle.std.specs.Prelude.{◌==◌, ◌&&◌, not, nat_le, Result}
use Rattle.std.specs.Option.{is_some}
use Rattle.std.proofs.lemmas.Bool.{and_from, and_parts, cases_Bool, cond-true, cond-false, eq-eqb, eqb-true, le-leb, ne_eqb}
use Rattle.std.proofs.lemmas.Bool.Decides.{nat_tests}
use Rattle.metering_model.specs.FirstFailure.{◌>>=◌, holds_or}
use Rattle.metering_model.specs.Ballot.{Acceptor, Vote, new_acceptor}
use Rattle.metering_model.specs.Batch.{Batch, IsWellFormed}
use Rattle.metering_model.specs.BatchReading.{batch_in}
use Rattle.metering_model.specs.Holding.{Holding, comes_before, held, is_batch_at, placed, put, sequences_of}
use Rattle.metering_model.specs.JournalRules.{first_broken, next_seq}
use Rattle.metering_model.specs.declared.BatchFault.{BatchFault}
use Rattle.metering_model.specs.declared.BrokenRule.{BrokenRule}
use Rattle.metering_model.specs.declared.Refusal.{Refusal}
use Rattle.metering_model.specs.declared.Refusal.TheVariants.{NoAgent, WrongSeq}
use Rattle.metering_model.specs.Sheet.{Sheet}
use Rattle.metering_model.specs.Step.{or_bad_batch, unless_broken}
use Rattle.metering_model.specs.Cut.{Cut}
use Rattle.metering_model.specs.World.{CarriesBatch, Good, Kept}
use Rattle.metering_model.proofs.BatchOrder.{place_of_batch, put_cases}
use Rattle.metering_model.proofs.Journals.{sequences-of_agent}
use Rattle.process_laws.specs.LocalSteps.{AgentDone, Group, HasJournaled, JournalBatch, OfModel, agent_does, batch_to_journal, journal_kept, journal_refusal, refusing, unmoved_journal}
use Rattle.log_text.specs.LogText.{Takes}
use Rattle.group_process.specs.Added.{AddsJust}
use Rattle.group_process.specs.Journals.{are_journaled_from, is_empty_acceptor, is_journal_of, is_nothing, keeps_journal_of}
use Rattle.group_process.specs.Selves.{AgentSelf, kept_of_agent}

abbrev IsFrom : ℕ → ℕ → Holding → Type 0
IsFrom a s h = are_journaled_from a s h ≡ true

-- the first is of that agent and sequence, and what is behind it goes on
first_of : (a s : ℕ) (b : Batch) (h : Holding) → IsFrom a s (b ∷ h) → (b.agent ≡ a) × (b.seq ≡ s) × IsFrom a (s + 1) h
first_of a s b h is =
    let parts = and_parts (is_batch_at a s b) (are_journaled_from a (s + 1) h) is in
    let place = place_of_batch a s b parts.0 in
    (place.0, place.1, parts.1)

-- one batch of a journal more was looked at
pub journal_goes_on : (a s : ℕ) (all rest : Holding) (b : Batch) → all ≡ b ∷ rest → true ≡ is_batch_at a s b → are_journaled_from a s all ≡ are_journaled_from a (s + 1) rest
journal_goes_on a s all rest b first is = ap (are_journaled_from a s) first ∙ ap (λ t. t && are_journaled_from a (s + 1) rest) (sym is)

-- each batch is one of the agent's sequences
length_of_journal : (a s : ℕ) (h : Holding) → IsFrom a s h → length (sequences_of a h) ≡ length h
length_of_journal a s [] is = refl
length_of_journal a s (b ∷ h) is =
    let first = first_of a s b h is in
    ap length (sequences-of_agent a b h (eq-eqb b.agent a first.0)) ∙ ap suc (length_of_journal a (s + 1) h first.2)

-- what is held is from the first sequence on
held_within : (a s : ℕ) (h : Holding) (q : ℕ) → IsFrom a s h → s ≤ q → q < s + length h → is_some (held h a q) ≡ true
held_within a s [] q is from to = absurd (omega arith)
held_within a s (b ∷ h) q is from to =
    let first = first_of a s b h is in
    elim (cases_Bool (is_batch_at a q b)) [
      | inl at ↦ ap is_some (cond-true (is_batch_at a q b) (Some b) (held h a q) at)
      | inr past ↦
          let other : q ≡ s → ⊥ = not_there a s b q first.0 first.1 past in
          ap is_some (cond-false (is_batch_at a q b) (Some b) (held h a q) past) ∙ held_within a (s + 1) h q first.2 (omega (arith, other)) (omega arith)
    ]
  where
    not_there : (a s : ℕ) (b : Batch) (q : ℕ) → b.agent ≡ a → b.seq ≡ s → is_batch_at a q b ≡ false → q ≡ s → ⊥
    not_there a s b q agent seq past same = grind (arith, nat_tests)

-- and nothing behind the last
none_behind : (a s : ℕ) (h : Holding) (q : ℕ) → IsFrom a s h → s + length h ≤ q → held h a q ≡ None
none_behind a s [] q is from = refl
none_behind a s (b ∷ h) q is from =
    let first = first_of a s b h is in
    cond-false (is_batch_at a q b) (Some b) (held h a q) (past a s b q first.1 (omega arith)) ∙ none_behind a (s + 1) h q first.2 (omega arith)
  where
    past : (a s : ℕ) (b : Batch) (q : ℕ) → b.seq ≡ s → s < q → is_batch_at a q b ≡ false
    past a s b q seq low = grind (arith, nat_tests)

-- The first sequence that is absent is the next one.
pub absent_is_next : (a : ℕ) (h : Holding) (r : ℕ) → is_journal_of a h ≡ true → held h a r ≡ None → 1 ≤ r → ((seq : ℕ) → 1 ≤ seq → seq < r → is_some (held h a seq) ≡ true) → r ≡ next_seq h a
absent_is_next a h r is absent from below =
    let size = length_of_journal a 1 h is in
    let not_below : r < length h + 1 → ⊥ = λ low. none_there (held h a r) absent (held_within a 1 h r is from (omega arith)) in
    let not_above : length h + 1 < r → ⊥ = λ high. none_there (held h a (length h + 1)) (none_behind a 1 h (length h + 1) is (omega arith)) (below (length h + 1) (omega arith) high) in
    omega (arith, size, not_below, not_above)
  where
    none_there : {A : Type 0} (o : Option A) → o ≡ None → is_some o ≡ true → ⊥
    none_there None e f = absurd (cc)
    none_there (Some x) e f = absurd (cc)

pub next_is_absent : (a : ℕ) (h : Holding) → is_journal_of a h ≡ true → held h a (next_seq h a) ≡ None
next_is_absent a h is = none_behind a 1 h (next_seq h a) is (omega (arith, length_of_journal a 1 h is))

-- a batch that comes next is put behind the last
put_behind : (a s : ℕ) (h : Holding) (b : Batch) → IsFrom a s h → b.agent ≡ a → b.seq ≡ s + length h → IsFrom a s (put h b)
put_behind a s [] b is agent seq = and_from (is_batch_at a s b) true (here a s b agent (omega (arith, seq))) refl
  where
    here : (a s : ℕ) (b : Batch) → b.agent ≡ a → b.seq ≡ s → is_batch_at a s b ≡ true
    here a s b agent seq = grind (arith, nat_tests)
put_behind a s (c ∷ h) b is agent seq =
    let first = first_of a s c h is in
    let low : c.seq < b.seq = omega (arith, first.1, seq) in
    put_cases (IsFrom a s) b c h
    (λ before. absurd (not_before a b c agent first.0 low before))
    (λ after. and_from (is_batch_at a s c) (are_journaled_from a (s + 1) (put h b)) (and_parts (is_batch_at a s c) (are_journaled_from a (s + 1) h) is).0 (put_behind a (s + 1) h b first.2 agent (omega (arith, seq))))
    (λ at. absurd (not_at b c low at))
  where
    not_before : (a : ℕ) (b c : Batch) → b.agent ≡ a → c.agent ≡ a → c.seq < b.seq → comes_before b c ≡ true → ⊥
    not_before a b c one two low before = grind (arith, nat_tests)

    not_at : (b c : Batch) → c.seq < b.seq → is_batch_at b.agent b.seq c ≡ true → ⊥
    not_at b c low at = grind (arith, nat_tests)

pub is_journal_with : (a : ℕ) (h : Holding) (b : Batch) → is_journal_of a h ≡ true → b.agent ≡ a → b.seq ≡ next_seq h a → is_journal_of a (put h b) ≡ true
is_journal_with a h b is agent seq = put_behind a 1 h b is agent (omega (arith, seq, length_of_journal a 1 h is))

-- ---- what is kept of a journal

no_cuts : (cuts : List Cut) → is_nothing cuts ≡ true → cuts ≡ []
no_cuts [] e = refl
no_cuts (c ∷ cs) e = absurd (cc)

nothing_promised : (promised : Option ℕ) (vote : Option Vote) → is_empty_acceptor (record { promised = promised; vote = vote }) ≡ true → new_acceptor ≡ record { promised = promised; vote = vote }
nothing_promised None None e = refl
nothing_promised None (Some v) e = absurd (cc)
nothing_promised (Some b) vote e = absurd (cc)

of_parts : (round : ℕ) (cuts : List Cut) (a : Acceptor) (h : Holding) → round ≡ 0 → cuts ≡ [] → a ≡ new_acceptor → journal_kept h ≡ record { round = round; learned = cuts; acceptor = a; holding = h }
of_parts round cuts a h none nothing empty = rw (none, nothing, empty) refl

-- What keeps a journal, and nothing of a node, is made of the journal alone.
pub journal_alone : (a : ℕ) (k : Kept) → keeps_journal_of a k ≡ true → (k ≡ journal_kept k.holding) × (is_journal_of a k.holding ≡ true)
journal_alone a k is =
    let last = and_parts ((k.round == 0) && is_nothing k.learned && is_empty_acceptor k.acceptor) (is_journal_of a k.holding) is in
    let third = and_parts ((k.round == 0) && is_nothing k.learned) (is_empty_acceptor k.acceptor) last.0 in
    let both = and_parts (k.round == 0) (is_nothing k.learned) third.0 in
    let acceptor = sym (nothing_promised k.acceptor.promised k.acceptor.vote third.1) in
    (sym (of_parts k.round k.learned k.acceptor k.holding (eqb-true k.round 0 both.0) (no_cuts k.learned both.1) acceptor), last.1)

-- ---- what may be journaled

both_held : (t u : Bool) (x y : Refusal) (rest : Result (Unit {0}) Refusal) → (holds_or t x >>= λ _. holds_or u y >>= λ _. rest) ≡ Ok tt → (t ≡ true) × (u ≡ true)
both_held true true x y rest e = (refl, refl)
both_held true false x y rest e = absurd (cc)
both_held false u x y rest e = absurd (cc)

-- what the tests tell of an agent, of a sequence and of a rule
pub no_agent_told : (g : Group) (a : ℕ) (h : Holding) (b : Batch) (agent : ℕ) → agent ≡ b.agent → (agent ≡ a → ⊥) → journal_refusal g a h b ≡ Err NoAgent
no_agent_told g a h b agent of other = rw (ne_eqb b.agent a (λ e. other (of ∙ e))) refl

module _ (g : Group) (a : ℕ) (h : Holding) (b : Batch) (agent seq wanted : ℕ) (of : agent ≡ b.agent) (at : seq ≡ b.seq) (next : wanted ≡ next_seq h a) (mine : agent ≡ a) where
  is_mine : (b.agent == a) ≡ true
  is_mine = eq-eqb b.agent a (sym of ∙ mine)

  pub wrong_seq_told : (seq ≡ wanted → ⊥) → journal_refusal g a h b ≡ Err (WrongSeq wanted)
  wrong_seq_told other = rw (is_mine, ne_eqb b.seq (next_seq h a) (λ e. other (at ∙ (e ∙ sym next)))) (ap (λ n. Err (WrongSeq n)) (sym next))

  pub rule_told : seq ≡ wanted → (sheet : Sheet) (held : Holding) (read : Batch) (o : Option BrokenRule) → sheet ≡ g.sheet → held ≡ h → read ≡ b
      → o ≡ first_broken sheet (put held read) (placed read) → journal_refusal g a h b ≡ unless_broken o
  rule_told same sheet held read o same_sheet same_held same_read broken =
      rw (is_mine, eq-eqb b.seq (next_seq h a) (sym at ∙ (same ∙ next)), ← same_sheet, ← same_held, ← same_read, ← broken) refl

-- what is not refused is the agent's next
pub journaled_is_next : (g : Group) (a : ℕ) (h : Holding) (b : Batch) → journal_refusal g a h b ≡ Ok tt → (b.agent ≡ a) × (b.seq ≡ next_seq h a)
journaled_is_next g a h b ok =
    let both = both_held (b.agent == a) (b.seq == next_seq h a) NoAgent (WrongSeq (next_seq h a)) (unless_broken (first_broken g.sheet (put h b) (placed b))) ok in
    (eqb-true b.agent a both.0, eqb-true b.seq (next_seq h a) both.1)

-- what is answered for a text that is a batch
module _ (g : Group) (a : ℕ) (h : Holding) (text : List ℕ) (b : Batch) (read : batch_in text ≡ Ok b) where
  abbrev by_refusal : Result (Unit {0}) Refusal → Result Batch Refusal
  by_refusal r = r >>= λ _. Ok b

  to_journal : (r : Result (Unit {0}) Refusal) → journal_refusal g a h b ≡ r → batch_to_journal g a h (Good text) ≡ by_refusal r
  to_journal r is = ap (λ (o : Result Batch BatchFault). or_bad_batch o >>= λ b. journal_refusal g a h b >>= λ _. Ok b) read ∙ ap by_refusal is

  abbrev done_by : Result Batch Refusal → AgentDone
  done_by (Ok b) = record { answer = record { words = HasJournaled b.seq; sends = Some (CarriesBatch b) }; journal = put h b }
  done_by (Err why) = unmoved_journal (refusing (OfModel why)) h

  pub refused_told : (why : Refusal) → journal_refusal g a h b ≡ Err why → agent_does g a h (JournalBatch (Good text)) ≡ unmoved_journal (refusing (OfModel why)) h
  refused_told why refused = ap done_by (to_journal (Err why) refused)

  pub journaled_told : journal_refusal g a h b ≡ Ok tt
      → agent_does g a h (JournalBatch (Good text)) ≡ record { answer = record { words = HasJournaled b.seq; sends = Some (CarriesBatch b) }; journal = put h b }
  journaled_told may = ap done_by (to_journal (Ok tt) may)

-- What an agent journals is added to what it keeps, and is all that is.
pub adds_batch : (old new : AgentSelf) (b : Batch) → IsWellFormed b → is_journal_of old.number old.journal ≡ true → old.number ≤ old.group.agents
    → journal_refusal old.group old.number old.journal b ≡ Ok tt → new ≡ record { group = old.group; number = old.number; journal = put old.journal b }
    → AddsJust (kept_of_agent old) (kept_of_agent new) (Some (Takes b))
adds_batch old new b form is low may same =
    let next = journaled_is_next old.group old.number old.journal b may in
    let absent : held old.journal b.agent b.seq ≡ None =
    subst (λ x. held old.journal x b.seq ≡ None) (sym next.0) (subst (λ x. held old.journal old.number x ≡ None) (sym next.1) (next_is_absent old.number old.journal is)) in
    subst (λ x. AddsJust (kept_of_agent old) (kept_of_agent x) (Some (Takes b))) (sym same) (
      form,
      and_from (nat_le b.agent old.group.agents) _ (le-leb b.agent old.group.agents (omega (arith, next.0, low))) (ap (λ o. not (is_some o)) absent),
      refl,
    )
