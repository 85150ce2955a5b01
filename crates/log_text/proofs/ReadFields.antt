-- Fields of an increment's line that are too many or too few, and what its word chooses.
use Rattle.std.proofs.Common.{◌≡◌, ℕ, zero, suc, ◌≤◌, ◌==◌, Bool, true, false, cond, List, [], ◌∷◌, length, Option, Some, None, codes, refl, sym, ap, ap₂, subst, ◌∙◌, arith, eqb-true}
use Rattle.std.specs.Option.{option_map}
use Rattle.std.proofs.lemmas.Bool.{cond-false, false_from_ne_true}
use Rattle.metering_model.specs.Limits.{last_ballot, last_period}
use Rattle.metering_model.specs.Ballot.{Vote}
use Rattle.metering_model.specs.BatchReading.{fields_in, is_same, whole_in}
use Rattle.metering_model.specs.KeptText.{ballot_numbered, cut_in}
use Rattle.packet_text.proofs.Fields.{some_field}
use Rattle.log_text.specs.LogText.{Increment, Learns, SetsBallots, acceptor_of, ballots_in, learned_in, line_increment_in, round_in, vote_in}
use Rattle.log_text.specs.Inner.Reading.{AreBallots, IsPromise, vote_of_fields}
use Rattle.log_text.proofs.KeptSteps.{promise_within}

-- nothing stands behind a round
round_alone_by : (f : List ℕ) (fs : List (List ℕ)) → 1 ≤ length fs → round_in (f ∷ fs) ≡ None
round_alone_by f [] some = absurd (omega (arith, some))
round_alone_by f (g ∷ gs) some = refl

pub round_alone : (f t : List ℕ) → round_in (f ∷ fields_in t) ≡ None
round_alone f t = round_alone_by f (fields_in t) (some_field t)

-- the ballot 0 has no cut
zero_by : (agents : ℕ) (fs : List (List ℕ)) → 1 ≤ length fs → vote_in agents zero fs ≡ None
zero_by agents [] some = absurd (omega (arith, some))
zero_by agents (f ∷ fs) some = refl

zero_vote : (agents n : ℕ) (t : List ℕ) → ballot_numbered n ≡ None → vote_in agents n (fields_in t) ≡ None
zero_vote agents zero t none = zero_by agents (fields_in t) (some_field t)
zero_vote agents (suc n) t none = absurd (cc)

abbrev told_by_ballot : (agents : ℕ) → List (List ℕ) → Option ℕ → Option (Option Vote)
told_by_ballot agents cut o = elim o [ None ↦ None | Some b ↦ vote_in agents b cut ]

-- so fields of it are of no vote
pub no_vote : (agents : ℕ) (fields ballot cut : List ℕ) (n : ℕ) → fields_in fields ≡ ballot ∷ fields_in cut → Some n ≡ whole_in 0 last_ballot ballot → None ≡ ballot_numbered n → vote_of_fields agents (fields_in fields) ≡ None
no_vote agents fields ballot cut n parts number none =
    ap (vote_of_fields agents) parts ∙ ap (told_by_ballot agents (fields_in cut)) (sym number) ∙ zero_vote agents n cut (sym none)

-- ---- by word

abbrev by_word : (agents : ℕ) (fs : List (List ℕ)) (round ballot learned : Bool) → Option Increment
by_word agents fs round ballot learned = cond round (round_in fs) (cond ballot (ballots_in agents fs) (cond learned (learned_in agents fs) None))

module _ (agents : ℕ) (word : List ℕ) (fs : List (List ℕ)) where
  pub by_round : is_same word (codes "round") ≡ true → line_increment_in agents (word ∷ fs) ≡ round_in fs
  by_round is = ap (λ r. by_word agents fs r (is_same word (codes "ballot")) (is_same word (codes "learned"))) is

  module _ (no_round : is_same word (codes "round") ≡ false) where
    pub by_ballot : is_same word (codes "ballot") ≡ true → line_increment_in agents (word ∷ fs) ≡ ballots_in agents fs
    by_ballot is = ap₂ (λ r b. by_word agents fs r b (is_same word (codes "learned"))) no_round is

    module _ (no_ballot : is_same word (codes "ballot") ≡ false) where
      by_last : line_increment_in agents (word ∷ fs) ≡ cond (is_same word (codes "learned")) (learned_in agents fs) None
      by_last = ap₂ (λ r b. by_word agents fs r b (is_same word (codes "learned"))) no_round no_ballot

      pub by_learned : is_same word (codes "learned") ≡ true → line_increment_in agents (word ∷ fs) ≡ learned_in agents fs
      by_learned is = by_last ∙ ap (λ l. cond l (learned_in agents fs) None) is

      pub by_none : is_same word (codes "learned") ≡ false → line_increment_in agents (word ∷ fs) ≡ None
      by_none not = by_last ∙ ap (λ l. cond l (learned_in agents fs) None) not

-- a word alone is no increment
pub word_alone : (agents : ℕ) (word : List ℕ) → line_increment_in agents (word ∷ []) ≡ None
word_alone agents word = alone (is_same word (codes "round")) (is_same word (codes "ballot")) (is_same word (codes "learned"))
  where
    alone : (round ballot learned : Bool) → by_word agents [] round ballot learned ≡ None
    alone true ballot learned = refl
    alone false true learned = refl
    alone false false true = refl
    alone false false false = refl

-- a period alone has no cut
no_cut : (agents : ℕ) → 1 ≤ agents → cut_in agents [] ≡ None
no_cut agents some = cond-false (0 == agents) (Some []) None (false_from_ne_true (0 == agents) (λ e. let is = eqb-true 0 agents e in omega (arith, some, is)))

pub period_alone : (agents : ℕ) (period : List ℕ) → 1 ≤ agents → learned_in agents (period ∷ []) ≡ None
period_alone agents period some = alone (whole_in 0 last_period period)
  where
    alone : (o : Option ℕ) → ◌≡◌ {A = Option Increment} (elim o [ None ↦ None | Some n ↦ option_map (Learns n) (cut_in agents []) ]) None
    alone None = refl
    alone (Some n) = ap (option_map (Learns n)) (no_cut agents some)

-- ---- a promise and a vote

abbrev votes_of : (agents n p : ℕ) (fs : List (List ℕ)) → Option ℕ → Option Increment
votes_of agents n p fs o = elim o [ None ↦ None | Some b ↦ option_map (λ vote. SetsBallots n (acceptor_of p vote)) (vote_in agents b fs) ]

abbrev by_promise : (agents n : ℕ) (ballot : List ℕ) (fs : List (List ℕ)) → Option ℕ → Option Increment
by_promise agents n ballot fs o = elim o [ None ↦ None | Some p ↦ votes_of agents n p fs (whole_in 0 last_ballot ballot) ]

abbrev by_period : (agents : ℕ) (promised ballot : List ℕ) (fs : List (List ℕ)) → Option ℕ → Option Increment
by_period agents promised ballot fs o = elim o [ None ↦ None | Some n ↦ by_promise agents n ballot fs (whole_in 0 last_ballot promised) ]

votes_same : (agents n p : ℕ) (fs : List (List ℕ)) (o : Option ℕ) → votes_of agents n p fs o ≡ option_map (λ v. SetsBallots n (acceptor_of p v)) (elim o [ None ↦ None | Some b ↦ vote_in agents b fs ])
votes_same agents n p fs None = refl
votes_same agents n p fs (Some b) = refl

ballots_by : (agents n p : ℕ) (period promised : List ℕ) (fs : List (List ℕ)) → Some n ≡ whole_in 0 last_period period → Some p ≡ whole_in 0 last_ballot promised
    → ballots_in agents (period ∷ promised ∷ fs) ≡ option_map (λ v. SetsBallots n (acceptor_of p v)) (vote_of_fields agents fs)
ballots_by agents n p period promised [] is_n is_p = refl
ballots_by agents n p period promised (f ∷ fs) is_n is_p =
    ap (by_period agents promised f fs) (sym is_n) ∙ ap (by_promise agents n f fs) (sym is_p) ∙ votes_same agents n p fs (whole_in 0 last_ballot f)

pub are_ballots : (n p : ℕ) (promise : Option ℕ) (fields rest vote : List (List ℕ)) (period promised : List ℕ) → fields ≡ period ∷ rest → rest ≡ promised ∷ vote
    → Some n ≡ whole_in 0 last_period period → Some p ≡ whole_in 0 last_ballot promised → p ≤ last_ballot → promise ≡ ballot_numbered p → AreBallots fields n promise vote
are_ballots n p promise fields rest vote period promised e1 e2 is_n is_p low is = record {
  read = λ agents.
      ap (ballots_in agents) (e1 ∙ ap (λ fs. period ∷ fs) e2)
      ∙ ballots_by agents n p period promised vote is_n is_p
      ∙ ap (λ (q : Option ℕ). option_map (λ (v : Option Vote). SetsBallots n (record { promised = q; vote = v })) (vote_of_fields agents vote)) (sym is);
  is_promise = subst IsPromise (sym is) (promise_within p low);
}
