-- The places that amendments name, batch by batch.
use Rattle.std.proofs.Common.{◌≡◌, ℕ, ◌+◌, ◌≤◌, Bool, true, false, List, map, ◌++◌, refl, sym, ap, subst, ◌∙◌, arith, Option, Some, None, inl, inr, ◌⊎◌, cond, take, get_or, length, [], ◌∷◌, ◌<◌}
use Rattle.std.specs.Prelude.{nat_le}
use Rattle.std.specs.List.{Contains, filter_map, cons_option}
use Rattle.std.specs.List.Sorted.{IsPermutation}
use Rattle.std.proofs.lemmas.List.{map-append, append_assoc, append-nil, take_more}
use Rattle.std.proofs.lemmas.Bool.{cases_lt, leb-true, le-leb, cond-true, cond-false, lt-leb}
use Rattle.std.proofs.lemmas.List.Elements.{Contains-append_left, Contains-append_right, Contains-append_cases, filter_map-append}
use Rattle.std.proofs.lemmas.List.Sorted.{Contains-permutation, IsPermutation-sym}
use Rattle.std.proofs.lemmas.Option.{same_Some, none-some}
use Rattle.metering_model.specs.Batch.{Batch}
use Rattle.metering_model.specs.Holding.{Holding, Position, held}
use Rattle.batch_view.specs.declared.owned.Amendment.{Amendment}
use Rattle.batch_view.specs.Kept.{amendments_in, AreAmendmentsOf}
use Rattle.batch_store.specs.declared.RecordPlace.{RecordPlace}
use Rattle.batch_store.specs.Stores.{position_of}
use Rattle.batch_store.specs.Inner.Amended.{Adds, named_place, IsNamedIn, IsNamedOf}
use Rattle.batch_store.proofs.Members.{filter_map-into, filter_map-from, map-into, map-from}

-- ---- one batch's amendments

names_where : (agent upto : ℕ) (a : Amendment) (x : RecordPlace) (all : List Amendment) (p : Position) → Contains all a → named_place agent upto a ≡ Some x → position_of x ≡ p → IsNamedIn agent upto all p
names_where agent upto a x all p has gives at = by_test (nat_le a.seq upto) refl gives
  where
    by_test : (t : Bool) → nat_le a.seq upto ≡ t → ◌≡◌ {A = Option RecordPlace} (cond t (Some (record { agent = agent; seq = a.seq; index = a.index })) None) (Some x) → IsNamedIn agent upto all p
    by_test false e gives = absurd (none-some x gives)
    by_test true e gives =
        let is : ◌≡◌ {A = RecordPlace} (record { agent = agent; seq = a.seq; index = a.index }) x = same_Some (record { agent = agent; seq = a.seq; index = a.index }) x gives in
        let at' : position_of (record { agent = agent; seq = a.seq; index = a.index }) ≡ p = ap position_of is ∙ at in
        record {
          amendment = a;
          is_there = has;
          is_agent = sym (ap (λ q. q.agent) at');
          is_seq = sym (ap (λ q. q.seq) at');
          is_index = sym (ap (λ q. q.index) at');
          within = leb-true a.seq upto e;
        }

pub named-from : (agent upto : ℕ) (all : List Amendment) (p : Position) → Contains (map position_of (filter_map (named_place agent upto) all)) p → IsNamedIn agent upto all p
named-from agent upto all p has =
    let image = map-from position_of (filter_map (named_place agent upto) all) p has in
    let origin = filter_map-from (named_place agent upto) all image.source image.is_there in
    names_where agent upto origin.source image.source all p origin.is_there origin.gives image.gives

pub named-into : (agent upto : ℕ) (all : List Amendment) (p : Position) → IsNamedIn agent upto all p → Contains (map position_of (filter_map (named_place agent upto) all)) p
named-into agent upto all p named =
    let a = named.amendment in
    let x : RecordPlace = record { agent = agent; seq = a.seq; index = a.index } in
    let gives : named_place agent upto a ≡ Some x = cond-true (nat_le a.seq upto) (Some x) None (le-leb a.seq upto named.within) in
    let at : position_of x ≡ p = ap (λ (q : ℕ × (ℕ × ℕ)). record { agent = q.0; seq = q.1.0; index = q.1.1 }) (cc) in
    map-into position_of (filter_map (named_place agent upto) all) p (record { source = x; is_there = filter_map-into (named_place agent upto) all x (record { source = a; is_there = named.is_there; gives = gives }); gives = at })

-- what is sorted names the same places
pub named-sorted : (agent upto : ℕ) (all bs : List Amendment) (p : Position) → IsPermutation all bs → IsNamedIn agent upto all p → IsNamedIn agent upto bs p
named-sorted agent upto all bs p moved named = record {
  amendment = named.amendment;
  is_there = Contains-permutation all bs named.amendment moved named.is_there;
  is_agent = named.is_agent;
  is_seq = named.is_seq;
  is_index = named.is_index;
  within = named.within;
}

-- ---- one agent's batches

pub Adds-none : (IsSo : Position → Type 0) (xs : List RecordPlace) → ((p : Position) → IsSo p → ⊥) → Adds IsSo xs xs
Adds-none IsSo xs none = λ p. ((λ has. inl has), (λ either. elim either [ inl has ↦ has | inr so ↦ absurd (none p so) ]))

pub Adds-same : (IsSo IsSuch : Position → Type 0) (old new : List RecordPlace) → Adds IsSo old new → ((p : Position) → IsSo p → IsSuch p) → ((p : Position) → IsSuch p → IsSo p) → Adds IsSuch old new
Adds-same IsSo IsSuch old new adds so such =
    λ p. ((λ has. elim ((adds p).0 has) [ inl was ↦ inl was | inr is ↦ inr (so p is) ]), (λ either. (adds p).1 (elim either [ inl was ↦ inl was | inr is ↦ inr (such p is) ])))

-- one addition after the other
pub Adds-onward : (IsSo IsSuch : Position → Type 0) (old mid new : List RecordPlace) → Adds IsSo old mid → Adds IsSuch mid new → Adds (λ p. IsSo p ⊎ IsSuch p) old new
Adds-onward IsSo IsSuch old mid new first second = λ p. (
  (λ has. elim ((second p).0 has) [
    | inl was ↦ elim ((first p).0 was) [ inl was ↦ inl was | inr is ↦ inr (inl is) ]
    | inr is ↦ inr (inr is)
  ]),
  (λ either. (second p).1 (elim either [
    | inl was ↦ inl ((first p).1 (inl was))
    | inr is ↦ elim is [ inl so ↦ inl ((first p).1 (inr so)) | inr such ↦ inr such ]
  ])),
)

pub Adds-append : (agent upto : ℕ) (all : List Amendment) (old new : List RecordPlace) → new ≡ old ++ filter_map (named_place agent upto) all → Adds (IsNamedIn agent upto all) old new
Adds-append agent upto all old new is = λ p. (
  (λ has. elim (Contains-append_cases (map position_of old) (map position_of more) p (subst (λ xs. Contains xs p) (joined) has)) [
    | inl was ↦ inl was
    | inr now ↦ inr (named-from agent upto all p now)
  ]),
  (λ either. subst (λ xs. Contains xs p) (sym joined) (elim either [
    | inl was ↦ Contains-append_left (map position_of old) (map position_of more) p was
    | inr named ↦ Contains-append_right (map position_of old) (map position_of more) p (named-into agent upto all p named)
  ])),
)
  where
    more : List RecordPlace
    more = filter_map (named_place agent upto) all

    joined : map position_of new ≡ map position_of old ++ map position_of more
    joined = ap (map position_of) is ∙ map-append position_of old more

module _ (h : Holding) (agent from : ℕ) where
  pub Adds-first : (xs : List RecordPlace) → Adds (IsNamedOf h agent from from) xs xs
  Adds-first xs = Adds-none (IsNamedOf h agent from from) xs (λ p named. let above = named.above in let until = named.until in omega arith)

  -- a batch that is absent names nothing
  pub Adds-absent : (seq : ℕ) (old new : List RecordPlace) → None ≡ held h agent (seq + 1) → Adds (IsNamedOf h agent from seq) old new → Adds (IsNamedOf h agent from (seq + 1)) old new
  Adds-absent seq old new absent adds = Adds-same (IsNamedOf h agent from seq) (IsNamedOf h agent from (seq + 1)) old new adds later earlier
    where
      later : (p : Position) → IsNamedOf h agent from seq p → IsNamedOf h agent from (seq + 1) p
      later p n = record { seq = n.seq; batch = n.batch; above = n.above; until = let until = n.until in omega arith; is_held = n.is_held; named = n.named }

      earlier : (p : Position) → IsNamedOf h agent from (seq + 1) p → IsNamedOf h agent from seq p
      earlier p n = elim (cases_lt seq n.seq) [
        | inl last ↦
            let until = n.until in
            let same : seq + 1 ≡ n.seq = omega arith in
            absurd (none-some n.batch (subst (λ s. None ≡ held h agent s) same absent ∙ n.is_held))
        | inr before ↦ record { seq = n.seq; batch = n.batch; above = n.above; until = before; is_held = n.is_held; named = n.named }
      ]

  -- one that is held names what its amendments name
  pub Adds-held : (seq : ℕ) (b : Batch) (all : List Amendment) (old mid new : List RecordPlace) → from ≤ seq → Some b ≡ held h agent (seq + 1) → AreAmendmentsOf b all → Adds (IsNamedOf h agent from seq) old mid → new ≡ mid ++ filter_map (named_place agent from) all
      → Adds (IsNamedOf h agent from (seq + 1)) old new
  Adds-held seq b all old mid new some at sorted adds is = Adds-same (λ p. IsNamedOf h agent from seq p ⊎ IsNamedIn agent from all p)
      (IsNamedOf h agent from (seq + 1)) old new
      (Adds-onward (IsNamedOf h agent from seq) (IsNamedIn agent from all) old mid new adds (Adds-append agent from all mid new is)) later earlier
    where
      later : (p : Position) → IsNamedOf h agent from seq p ⊎ IsNamedIn agent from all p → IsNamedOf h agent from (seq + 1) p
      later p (inl n) = record { seq = n.seq; batch = n.batch; above = n.above; until = let until = n.until in omega arith; is_held = n.is_held; named = n.named }
      later p (inr n) = record { seq = seq + 1; batch = b; above = omega arith; until = omega arith; is_held = sym at; named = named-sorted agent from all (amendments_in b) p (IsPermutation-sym (amendments_in b) all sorted.all) n }

      earlier : (p : Position) → IsNamedOf h agent from (seq + 1) p → IsNamedOf h agent from seq p ⊎ IsNamedIn agent from all p
      earlier p n = elim (cases_lt seq n.seq) [
        | inl last ↦
            let until = n.until in
            let same : n.seq ≡ seq + 1 = omega arith in
            let is : n.batch ≡ b = same_Some n.batch b (sym n.is_held ∙ (ap (held h agent) same ∙ sym at)) in
            inr (named-sorted agent from (amendments_in b) all p sorted.all (subst (λ c. IsNamedIn agent from (amendments_in c) p) is n.named))
        | inr before ↦ inl (record { seq = n.seq; batch = n.batch; above = n.above; until = before; is_held = n.is_held; named = n.named })
      ]

-- ---- one amendment more

module _ (agent upto : ℕ) (old now : List RecordPlace) (amendments : List Amendment) (i : ℕ) (a : Amendment) (inside : i < length amendments) (is : a ≡ get_or amendments i a) (so_far : now ≡ old ++ filter_map (named_place agent upto) (take i amendments)) where
  one_more : (o : Option RecordPlace) → named_place agent upto a ≡ o → now ++ cons_option o [] ≡ old ++ filter_map (named_place agent upto) (take (i + 1) amendments)
  one_more o gives =
      ap (λ xs. xs ++ cons_option o []) so_far
      ∙ (append_assoc old (filter_map (named_place agent upto) (take i amendments)) (cons_option o [])
      ∙ ap (λ xs. old ++ xs) (sym (ap (filter_map (named_place agent upto)) (take_more amendments i a inside)
      ∙ (filter_map-append (named_place agent upto) (take i amendments) (get_or amendments i a ∷ [])
      ∙ ap (λ x. filter_map (named_place agent upto) (take i amendments) ++ cons_option x []) (ap (named_place agent upto) (sym is) ∙ gives)))))

  pub one_more-named : a.seq ≤ upto → now ++ record { agent = agent; seq = a.seq; index = a.index } ∷ [] ≡ old ++ filter_map (named_place agent upto) (take (i + 1) amendments)
  one_more-named within = one_more (Some (record { agent = agent; seq = a.seq; index = a.index })) (cond-true (nat_le a.seq upto) (Some (record { agent = agent; seq = a.seq; index = a.index })) None (le-leb a.seq upto within))

  pub one_more-beyond : upto < a.seq → now ≡ old ++ filter_map (named_place agent upto) (take (i + 1) amendments)
  one_more-beyond beyond = sym (append-nil now) ∙ one_more None (cond-false (nat_le a.seq upto) (Some (record { agent = agent; seq = a.seq; index = a.index })) None (lt-leb a.seq upto beyond))
