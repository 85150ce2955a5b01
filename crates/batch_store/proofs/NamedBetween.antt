-- What the amendments between two cuts name is what those of each agent's batches between them name.
use Rattle.std.proofs.Common.{◌≡◌, ℕ, zero, suc, ◌+◌, ◌<◌, ◌≤◌, Bool, true, false, ◌&&◌, List, [], ◌∷◌, length, map, refl, sym, ap, subst, ◌∙◌, arith, Option, Some, None, inl, inr, ◌⊎◌, cond}
use Rattle.std.specs.Prelude.{nat_le, nat_lt, ◌↔◌}
use Rattle.std.specs.List.{Contains, enumerate_from}
use Rattle.std.proofs.lemmas.Bool.{and_parts, and_from, cases_Bool, cases_lt, leb-true, le-leb, lt-ltb, ltb-true, cond-true, cond-false}
use Rattle.std.proofs.lemmas.Option.{same_Some, none-some}
use Rattle.metering_model.specs.Batch.{Batch, Record, Reads, Amends}
use Rattle.metering_model.specs.Cut.{Cut, last_of}
use Rattle.metering_model.specs.Holding.{Holding, IsHolding, Position, Placed, placed, records_in_order, held, is_batch_at, is_in_order, comes_before}
use Rattle.metering_model.proofs.BatchOrder.{at_itself, not_at-before, in_order_parts}
use Rattle.metering_model.proofs.HoldingLaws.{held_place}
use Rattle.metering_model.proofs.RecordPlaces.{same_position}
use Rattle.batch_view.specs.declared.owned.Amendment.{Amendment}
use Rattle.batch_view.specs.Kept.{amendment_of, amendments_in}
use Rattle.batch_store.specs.Stores.{named_by, named_between, position_of, rise, AreAmended}
use Rattle.batch_store.specs.declared.RecordPlace.{RecordPlace}
use Rattle.batch_store.specs.Inner.Amended.{Adds, IsNamedIn, IsNamedOf}
use Rattle.batch_store.proofs.LeastAbsent.{last_of-beyond}
use Rattle.batch_store.proofs.NamedPlaces.{Adds-none, Adds-same, Adds-onward}
use Rattle.batch_store.proofs.Members.{contains-nil, contains-here, contains-there, contains-cases, all-contains, filter_map-into, filter_map-from, map-into, map-from, flat_map-into, flat_map-from}

-- ---- what a holding has

member_held : (h : Holding) (b : Batch) → is_in_order h ≡ true → Contains h b → held h b.agent b.seq ≡ Some b
member_held [] b order has = absurd (contains-nil b has)
member_held (c ∷ h) b order has =
    let parts = in_order_parts c h order in
    elim (contains-cases c h b has) [
      | inl here ↦ cond-true (is_batch_at b.agent b.seq c) (Some c) (held h b.agent b.seq) (ap (is_batch_at b.agent b.seq) here ∙ at_itself b) ∙ ap Some here
      | inr there ↦
          let past = not_at-before c b b.agent b.seq (all-contains (comes_before c) h b parts.0 there) (at_itself b) in
          cond-false (is_batch_at b.agent b.seq c) (Some c) (held h b.agent b.seq) past ∙ member_held h b parts.1 there
    ]

held_member : (h : Holding) (agent seq : ℕ) (b : Batch) → held h agent seq ≡ Some b → Contains h b
held_member [] agent seq b at = absurd (none-some b at)
held_member (c ∷ h) agent seq b at = elim (cases_Bool (is_batch_at agent seq c)) [
  | inl here ↦
      let same : c ≡ b = same_Some c b (sym (cond-true (is_batch_at agent seq c) (Some c) (held h agent seq) here) ∙ at) in
      subst (λ x. Contains (c ∷ h) x) same (contains-here h c)
  | inr past ↦ contains-there c h b (held_member h agent seq b (sym (cond-false (is_batch_at agent seq c) (Some c) (held h agent seq) past) ∙ at))
]

-- ---- the amendment that names a place

abbrev place_in : Batch → ℕ × Record → Placed
place_in b e = record { place = record { agent = b.agent; seq = b.seq; index = e.0 }; what = e.1 }

abbrev names : Cut → Cut → Placed → Option Position
names from to x = named_by from to x.place x.what

abbrev as_amendment : ℕ × Record → Option Amendment
as_amendment e = amendment_of e.0 e.1

-- an amendment between the cuts names a place up to the earlier one
record NamesOf (from to : Cut) (b : Batch) (p : Position) : Type 0 where
  pub above : last_of from b.agent < b.seq
  pub until : b.seq ≤ last_of to b.agent
  pub named : IsNamedIn b.agent (last_of from b.agent) (amendments_in b) p

entry_names : (from to : Cut) (b : Batch) (n : ℕ) (what : Record) (p : Position) → Contains (enumerate_from 0 b.records) (n, what) → names from to (place_in b (n, what)) ≡ Some p → NamesOf from to b p
entry_names from to b n (Reads r) p has gives = absurd (none-some p gives)
entry_names from to b n (Amends seq index value) p has gives = by_test (nat_lt (last_of from b.agent) b.seq && nat_le b.seq (last_of to b.agent) && nat_le seq (last_of from b.agent)) refl gives
  where
    by_test : (t : Bool) → (nat_lt (last_of from b.agent) b.seq && nat_le b.seq (last_of to b.agent) && nat_le seq (last_of from b.agent)) ≡ t → ◌≡◌ {A = Option Position} (cond t (Some (record { agent = b.agent; seq = seq; index = index })) None) (Some p) → NamesOf from to b p
    by_test false e gives = absurd (none-some p gives)
    by_test true e gives =
        let is : ◌≡◌ {A = Position} (record { agent = b.agent; seq = seq; index = index }) p = same_Some (record { agent = b.agent; seq = seq; index = index }) p gives in
        let within = and_parts (nat_lt (last_of from b.agent) b.seq && nat_le b.seq (last_of to b.agent)) (nat_le seq (last_of from b.agent)) e in
        let between = and_parts (nat_lt (last_of from b.agent) b.seq) (nat_le b.seq (last_of to b.agent)) within.0 in
        record {
          above = ltb-true (last_of from b.agent) b.seq between.0;
          until = leb-true b.seq (last_of to b.agent) between.1;
          named = record {
            amendment = record { seq = seq; index = index; value = value; own = n };
            is_there = filter_map-into as_amendment (enumerate_from 0 b.records) (record { seq = seq; index = index; value = value; own = n }) (record { source = (n, Amends seq index value); is_there = has; gives = refl });
            is_agent = sym (ap (λ q. q.agent) is);
            is_seq = sym (ap (λ q. q.seq) is);
            is_index = sym (ap (λ q. q.index) is);
            within = leb-true seq (last_of from b.agent) within.1;
          };
        }

amendment_names : (from to : Cut) (b : Batch) (n : ℕ) (what : Record) (a : Amendment) (p : Position) → last_of from b.agent < b.seq → b.seq ≤ last_of to b.agent → amendment_of n what ≡ Some a → a.seq ≤ last_of from b.agent
    → p.agent ≡ b.agent → p.seq ≡ a.seq → p.index ≡ a.index → names from to (place_in b (n, what)) ≡ Some p
amendment_names from to b n (Reads r) a p above until gives within agent seq index = absurd (none-some a gives)
amendment_names from to b n (Amends s i v) a p above until gives within agent seq index =
    let is : ◌≡◌ {A = Amendment} (record { seq = s; index = i; value = v; own = n }) a = same_Some (record { seq = s; index = i; value = v; own = n }) a gives in
    let low : s ≤ last_of from b.agent = subst (λ x. x ≤ last_of from b.agent) (sym (ap (λ x. x.seq) is)) within in
    let test = and_from (nat_lt (last_of from b.agent) b.seq && nat_le b.seq (last_of to b.agent)) (nat_le s (last_of from b.agent))
    (and_from (nat_lt (last_of from b.agent) b.seq) (nat_le b.seq (last_of to b.agent)) (lt-ltb (last_of from b.agent) b.seq above)
    (le-leb b.seq (last_of to b.agent) until)) (le-leb s (last_of from b.agent) low) in
    let place : ◌≡◌ {A = Position} (record { agent = b.agent; seq = s; index = i }) p = same_position p b.agent s i (sym agent) (ap (λ x. x.seq) is ∙ sym seq) (ap (λ x. x.index) is ∙ sym index) in
    cond-true (nat_lt (last_of from b.agent) b.seq && nat_le b.seq (last_of to b.agent) && nat_le s (last_of from b.agent)) (Some (record { agent = b.agent; seq = s; index = i })) None test ∙ ap Some place

-- ---- between two cuts

-- one of the agents before one names the place
pub record IsNamedBefore (h : Holding) (from to : Cut) (before : ℕ) (p : Position) : Type 0 where
  pub agent : ℕ
  pub some : 1 ≤ agent
  pub less : agent < before
  pub named : IsNamedOf h agent (last_of from agent) (last_of to agent) p

pub named_between-from : (h : Holding) (from to : Cut) (before : ℕ) (p : Position) → length to < before → is_in_order h ≡ true → Contains (named_between h from to) p → IsNamedBefore h from to before p
named_between-from h from to before p size order has =
    let x = filter_map-from (names from to) (records_in_order h) p has in
    let b = flat_map-from placed h x.source x.is_there in
    let e = map-from (place_in b.source) (enumerate_from 0 b.source.records) x.source b.has in
    let n = entry_names from to b.source e.source.0 e.source.1 p e.is_there (ap (names from to) e.gives ∙ x.gives) in
    let above = n.above in
    let until = n.until in
    record {
      agent = b.source.agent;
      some = agent_some b.source.agent b.source.seq above until;
      less = agent_less b.source.agent b.source.seq above until;
      named = record { seq = b.source.seq; batch = b.source; above = above; until = until; is_held = member_held h b.source order b.is_there; named = n.named };
    }
  where
    agent_some : (a s : ℕ) → last_of from a < s → s ≤ last_of to a → 1 ≤ a
    agent_some zero s above until = absurd (omega arith)
    agent_some (suc a) s above until = omega arith

    agent_less : (a s : ℕ) → last_of from a < s → s ≤ last_of to a → a < before
    agent_less a s above until = elim (cases_lt a before) [
      | inl less ↦ less
      | inr beyond ↦ let none = last_of-beyond to a (omega arith) in absurd (omega arith)
    ]

pub named_between-into : (h : Holding) (from to : Cut) (before : ℕ) (p : Position) → IsNamedBefore h from to before p → Contains (named_between h from to) p
named_between-into h from to before p is =
    let n = is.named in
    let b = n.batch in
    let place = held_place h is.agent n.seq b n.is_held in
    let a = filter_map-from as_amendment (enumerate_from 0 b.records) n.named.amendment n.named.is_there in
    let above : last_of from b.agent < b.seq = subst (λ x. last_of from x < b.seq) (sym place.0) (subst (λ s. last_of from is.agent < s) (sym place.1) n.above) in
    let until : b.seq ≤ last_of to b.agent = subst (λ x. b.seq ≤ last_of to x) (sym place.0) (subst (λ s. s ≤ last_of to is.agent) (sym place.1) n.until) in
    let within : n.named.amendment.seq ≤ last_of from b.agent = subst (λ x. n.named.amendment.seq ≤ last_of from x) (sym place.0) n.named.within in
    let gives = amendment_names from to b a.source.0 a.source.1 n.named.amendment p above until a.gives within (n.named.is_agent ∙ sym place.0) n.named.is_seq n.named.is_index in
    filter_map-into (names from to) (records_in_order h) p (record {
      source = place_in b a.source;
      is_there = flat_map-into placed h (place_in b a.source) (record {
        source = b;
        is_there = held_member h is.agent n.seq b n.is_held;
        has = map-into (place_in b) (enumerate_from 0 b.records) (place_in b a.source) (record { source = a.source; is_there = a.is_there; gives = refl });
      });
      gives = gives;
    })

pub Adds-before_first : (h : Holding) (from to : Cut) (xs : List RecordPlace) → xs ≡ [] → Adds (IsNamedBefore h from to 1) [] xs
Adds-before_first h from to xs none = subst (λ (ys : List RecordPlace). Adds (IsNamedBefore h from to 1) [] ys) (sym none) (Adds-none (IsNamedBefore h from to 1) [] (λ p is. let some = is.some in let less = is.less in omega arith))

pub Adds-agent : (h : Holding) (from to : Cut) (agent low high : ℕ) (mid new : List RecordPlace) → 1 ≤ agent → low ≡ last_of from agent → high ≡ last_of to agent → Adds (IsNamedBefore h from to agent) [] mid → Adds (IsNamedOf h agent low high) mid new
    → Adds (IsNamedBefore h from to (agent + 1)) [] new
Adds-agent h from to agent low high mid new some is_low is_high before adds = Adds-same (λ p. IsNamedBefore h from to agent p ⊎ IsNamedOf h agent low high p)
    (IsNamedBefore h from to (agent + 1)) [] new (Adds-onward (IsNamedBefore h from to agent) (IsNamedOf h agent low high) [] mid new before adds) later earlier
  where
    later : (p : Position) → IsNamedBefore h from to agent p ⊎ IsNamedOf h agent low high p → IsNamedBefore h from to (agent + 1) p
    later p (inl n) = record { agent = n.agent; some = n.some; less = let less = n.less in omega arith; named = n.named }
    later p (inr n) = record { agent = agent; some = some; less = omega arith; named = subst (λ l. IsNamedOf h agent l (last_of to agent) p) is_low (subst (λ u. IsNamedOf h agent low u p) is_high n) }

    earlier : (p : Position) → IsNamedBefore h from to (agent + 1) p → IsNamedBefore h from to agent p ⊎ IsNamedOf h agent low high p
    earlier p n = elim (cases_lt n.agent agent) [
      | inl less ↦ inl (record { agent = n.agent; some = n.some; less = less; named = n.named })
      | inr last ↦
          let less = n.less in
          let same : n.agent ≡ agent = omega arith in
          let named = subst (λ a. IsNamedOf h a (last_of from a) (last_of to a) p) same n.named in
          inr (subst (λ l. IsNamedOf h agent l high p) (sym is_low) (subst (λ u. IsNamedOf h agent (last_of from agent) u p) (sym is_high) named))
    ]

-- The places of all agents, sorted and each once, are the ones that are amended.
pub are_amended : (h : Holding) (from to : Cut) (before : ℕ) (old : List RecordPlace) (ps : List Position) → IsHolding h → length to < before
    → Adds (IsNamedBefore h from to before) [] old → ((p : Position) → Contains ps p ↔ Contains (map position_of old) p) → rise ps ≡ true
    → AreAmended h from to ps
are_amended h from to before old ps is size adds same rises = record {
  each = λ p. (
    (λ has. elim ((adds p).0 ((same p).0 has)) [
      | inl none ↦ absurd (contains-nil p none)
      | inr named ↦ named_between-into h from to before p named
    ]),
    (λ named. (same p).1 ((adds p).1 (inr (named_between-from h from to before p size is.in_order named)))),
  );
  in_order = rises;
}
