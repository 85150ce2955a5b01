-- Which absent batch is the least one.
use Rattle.std.proofs.Common.{◌≡◌, ℕ, zero, suc, ◌+◌, ◌<◌, ◌≤◌, true, [], ◌∷◌, length, refl, sym, ap, subst, ◌∙◌, arith, Option, Some, None, inl, inr, is_some}
use Rattle.std.proofs.lemmas.Bool.{cases_lt, both_ways}
use Rattle.metering_model.specs.Cut.{Cut, last_of}
use Rattle.metering_model.specs.Holding.{Holding, held}
use Rattle.metering_model.specs.Step.{first_missing}
use Rattle.metering_model.proofs.MissingLaws.{IsNamed, held-up_to_where, missing_is_named, nothing_missing}

-- an agent has each of its batches up to the cut
abbrev pub HasAllUpTo : Holding → Cut → ℕ → Type 0
HasAllUpTo h cut agent = (seq : ℕ) → 0 < seq → seq ≤ last_of cut agent → is_some (held h agent seq) ≡ true

-- agents count from 1
pub has_all-before_first : (h : Holding) (cut : Cut) (a : ℕ) → a < 1 → HasAllUpTo h cut a
has_all-before_first h cut zero less seq some within = absurd (omega arith)
has_all-before_first h cut (suc a) less seq some within = absurd (omega arith)

-- An agent whose least absent batch is beyond the cut has all up to it.
pub has_all-one_more : (h : Holding) (cut : Cut) (agent absent : ℕ) → ((a : ℕ) → a < agent → HasAllUpTo h cut a) → ((seq : ℕ) → 1 ≤ seq → seq < absent → is_some (held h agent seq) ≡ true) → last_of cut agent < absent
    → (a : ℕ) → a < agent + 1 → HasAllUpTo h cut a
has_all-one_more h cut agent absent before below beyond a less seq some within = elim (cases_lt a agent) [
  | inl earlier ↦ before a earlier seq some within
  | inr here ↦
      let same : agent ≡ a = omega arith in
      let entry : last_of cut agent ≡ last_of cut a = ap (last_of cut) same in
      subst (λ x. is_some (held h x seq) ≡ true) same (below seq (omega arith) (omega (arith, entry)))
]

-- there is nothing behind a cut's last agent
pub last_of-beyond : (cut : Cut) (agent : ℕ) → length cut < agent → last_of cut agent ≡ 0
last_of-beyond cut zero less = refl
last_of-beyond [] (suc a) less = refl
last_of-beyond (s ∷ cut) (suc zero) less = absurd (omega arith)
last_of-beyond (s ∷ cut) (suc (suc a)) less = last_of-beyond cut (suc a) (omega arith)

-- Where each agent has all, nothing is missing.
pub first_missing_is_none : (h : Holding) (cut : Cut) (beyond : ℕ) → length cut < beyond → ((a : ℕ) → a < beyond → HasAllUpTo h cut a) → None ≡ first_missing h cut
first_missing_is_none h cut beyond size has = sym (nothing_missing h cut (λ agent seq some within. elim (cases_lt agent beyond) [
  | inl inside ↦ has agent inside seq some within
  | inr outside ↦ let none = last_of-beyond cut agent (omega arith) in absurd (omega arith)
]))

absent_is_held : (h : Holding) (agent seq : ℕ) → held h agent seq ≡ None → is_some (held h agent seq) ≡ true → ⊥
absent_is_held h agent seq absent has = both_ways (is_some (held h agent seq)) (ap is_some absent) has

-- Of two absent places that are each the least, neither is before the other.
same_place : (h : Holding) (cut : Cut) (a s b t : ℕ) → IsNamed h cut a s → IsNamed h cut b t → (a ≡ b) × (s ≡ t)
same_place h cut a s b t first second = elim (cases_lt a b) [
  | inl less ↦ absurd (absent_is_held h a s first.absent (second.of_earlier a s less first.positive first.within))
  | inr more ↦ elim (cases_lt b a) [
    | inl less ↦ absurd (absent_is_held h b t second.absent (first.of_earlier b t less second.positive second.within))
    | inr equal ↦ let same : a ≡ b = omega arith in (same, of_one_agent same)
  ]
]
  where
    of_one_agent : a ≡ b → s ≡ t
    of_one_agent same = elim (cases_lt s t) [
      | inl less ↦ absurd (absent_is_held h a s first.absent (subst (λ x. is_some (held h x s) ≡ true) (sym same) (second.of_agent s first.positive less)))
      | inr more ↦ elim (cases_lt t s) [
        | inl less ↦ absurd (absent_is_held h b t second.absent (subst (λ x. is_some (held h x t) ≡ true) same (first.of_agent t second.positive less)))
        | inr equal ↦ omega arith
      ]
    ]

-- An absent place before which nothing is absent is the one that the model names.
pub first_missing_is : (h : Holding) (cut : Cut) (agent seq : ℕ) → IsNamed h cut agent seq → Some (agent, seq) ≡ first_missing h cut
first_missing_is h cut agent seq named = sym (either (first_missing h cut) refl)
  where
    either : (o : Option (ℕ × ℕ)) → first_missing h cut ≡ o → first_missing h cut ≡ Some (agent, seq)
    either None e = absurd (absent_is_held h agent seq named.absent (held-up_to_where h cut e agent seq named.positive named.within))
    either (Some at) e =
        let same = same_place h cut at.0 at.1 agent seq (missing_is_named h cut at.0 at.1 e) named in
        e ∙ (ap (λ a. Some (a, at.1)) same.0 ∙ ap (λ s. Some (agent, s)) same.1)
