-- A run of a voter and an observer, and the run of the voter alone.
use Rattle.std.proofs.Common.{◌≡◌, ℕ, zero, suc, ◌<◌, ◌≤◌, Bool, true, false, nat_lt, List, [], ◌∷◌, ◌++◌, length, replicate, filter, zip, Option, Some, None, Result, Ok, Err, inl, inr, refl, sym, ap, ◌∙◌, arith, All, if◌then◌else◌}
use Rattle.std.specs.Prelude.{slice_get}
use Rattle.std.specs.List.{list_all}
use Rattle.std.specs.Option.{option_map}
use Rattle.std.proofs.lemmas.Bool.{and_parts, ltb-true}
use Rattle.std.proofs.lemmas.List.Elements.{All-nil, All-cons}
use Rattle.std.proofs.lemmas.Option.{same_Some, none-some, slice_get_within}
use Rattle.metering_model.specs.FirstFailure.{◌>>=◌}
use Rattle.metering_model.specs.declared.Refusal.{Refusal}
use Rattle.metering_model.specs.declared.Refusal.TheVariants.{NotClosed, WorldFull}
use Rattle.metering_model.specs.Limits.{most_packets}
use Rattle.metering_model.specs.World.{World, Packet, Decided, Event, Deliver, Start, Export, Reply, Started, Refused, current_period, opening}
use Rattle.metering_model.specs.Step.{Outcome, or_refused, step, play}
use Rattle.metering_model.proofs.Samples.{sheet_0, issuer_1}
use Rattle.group_laws.specs.Observers.{without, IsFollowed}
use Rattle.group_laws.specs.Alone.{is_of_voters, unnumbered, IsLike, AreAmong}
use Rattle.group_laws.proofs.Steps.{get-replicate, length-replicate}
use Rattle.group_laws.proofs.WithoutObservers.{get_copy, observers_change_nothing}

abbrev run_of : ℕ → List Event → List Reply × World
run_of observers events = play (opening 1 observers 1 sheet_0 issuer_1) events

-- the observer learns, exports, and tells in packet 4 what it has learned
abbrev observed : List Event
observed =
    Start 1 ∷ Start 2 ∷ Start 0 ∷ Deliver 0 1 ∷ Deliver 0 0 ∷ Deliver 1 0 ∷ Deliver 2 1 ∷ Deliver 2 0 ∷ Deliver 3 1 ∷ Export 1 0 ∷ Deliver 0 1 ∷ []

-- the voter learns by its own packet, and goes on
abbrev events : List Event
events = observed ++ Deliver 3 0 ∷ Start 0 ∷ Deliver 5 0 ∷ []

abbrev alone : List Event
alone = Start 0 ∷ Deliver 0 0 ∷ Deliver 1 0 ∷ Deliver 2 0 ∷ []

-- without the observer's packet the voter's next one is the fourth
what_is_left : without 1 [] 0 events (run_of 1 events).0 ≡ Some (alone ++ Deliver 3 0 ∷ Start 0 ∷ Deliver 4 0 ∷ [])
what_is_left = refl

abbrev is_not_full : Reply → Bool
is_not_full (Refused WorldFull) = false
is_not_full _ = true

not_full : (r : Reply) → is_not_full r ≡ true → r ≡ Refused WorldFull → ⊥
not_full r e full = let is = ap is_not_full full in absurd (cc (e, is))

abbrev Fits : Reply → Type 0
Fits r = r ≡ Refused WorldFull → ⊥

none_full : (rs : List Reply) → list_all is_not_full rs ≡ true → All Fits rs
none_full [] e = All-nil Fits
none_full (r ∷ rs) e =
    let parts = and_parts (is_not_full r) (list_all is_not_full rs) e in
    All-cons Fits r rs (not_full r parts.0) (none_full rs parts.1)

-- so the voter is the same in both runs
the_voter_is_the_same : slice_get (run_of 0 (alone ++ Deliver 3 0 ∷ Start 0 ∷ Deliver 4 0 ∷ [])).1.nodes 0 ≡ slice_get (run_of 1 events).1.nodes 0
the_voter_is_the_same =
    (observers_change_nothing most_packets 1 1 1 sheet_0 issuer_1 events (alone ++ Deliver 3 0 ∷ Start 0 ∷ Deliver 4 0 ∷ []) what_is_left (none_full (run_of 1 events).0 refl)).2.nodes 0 (omega arith)

-- ---- a packet of the observer that is delivered to the voter

-- there is no run without it
abbrev taught : List Event
taught = observed ++ Deliver 4 0 ∷ []

nothing_is_left : without 1 [] 0 taught (run_of 1 taught).0 ≡ None
nothing_is_left = refl

-- and where that delivery is left out too, the voter is not the same: the observer had taught it
abbrev learned_by : World → Option ℕ
learned_by w = option_map current_period (slice_get w.nodes 0)

it_was_taught : learned_by (run_of 1 taught).1 ≡ Some 1
it_was_taught = refl

it_had_not_learned : learned_by (run_of 0 alone).1 ≡ Some 0
it_had_not_learned = refl

a_lesson_of_an_observer_shows : IsFollowed 1 (run_of 1 taught).1 (run_of 0 alone).1 → ⊥
a_lesson_of_an_observer_shows follows =
    let same = ap (option_map current_period) (follows.2.nodes 0 (omega arith)) in
    let periods = same_Some 0 1 (sym it_had_not_learned ∙ same ∙ it_was_taught) in
    omega (arith, periods)

-- ---- the vote that the observer had counted teaches the voter too

voted : List Event
voted = alone ++ Deliver 3 0 ∷ []

it_learns_of_the_vote : learned_by (run_of 0 voted).1 ≡ Some 1
unfolding voted
it_learns_of_the_vote = refl

-- and what the voter was answered it is answered now, each event with its packet's number in this run
they_are_answered_alike : AreAmong (filter (is_of_voters 1) (zip taught (run_of 1 taught).0)) (zip voted (run_of 0 voted).0)
unfolding voted
they_are_answered_alike = inl ((refl, refl), inl ((refl, refl), inl ((refl, refl), inl ((refl, refl), inl ((refl, refl), tt)))))

-- another answer is not alike
it_is_answered : AreAmong ((Export 0 0, Refused (NotClosed 0)) ∷ []) ((Export 0 0, Refused (NotClosed 1)) ∷ []) → ⊥
it_is_answered (inl h) = let same : 0 ≡ 1 = ap told h.0.1 in omega (arith, same)
  where
    told : Reply → ℕ
    told (Refused (NotClosed period)) = period
    told r = 0
it_is_answered (inr h) = absurd (cc (h.0))

-- ---- an observer that answers until the world is full

abbrev filled : List Packet → World
filled sent = record (opening 1 1 1 sheet_0 issuer_1) { packets = sent }

abbrev not_filled : World
not_filled = opening 1 0 1 sheet_0 issuer_1

-- the voter can't start any more, and without the observer it could
a_full_world_refuses : (sent : List Packet) → 1_000_000 ≤ length sent → (step (filled sent) (Start 0)).0 ≡ Refused WorldFull
a_full_world_refuses sent full = by_room _ (nat_lt (length sent) 1_000_000) refl
  where
    by_room : (f : ℕ → Result Outcome Refusal) (b : Bool) → nat_lt (length sent) 1_000_000 ≡ b → (or_refused (filled sent) ((if b then Ok (length sent) else Err WorldFull) >>= f)).0 ≡ Refused WorldFull
    by_room f true e = absurd (let low = ltb-true _ _ e in omega (arith, low, full))
    by_room f false e = refl

there_is_room : (step not_filled (Start 0)).0 ≡ Started 1 0
there_is_room = refl

not_answered_alike : (sent : List Packet) → 1_000_000 ≤ length sent → IsLike (Start 0, (step (filled sent) (Start 0)).0) (Start 0, (step not_filled (Start 0)).0) → ⊥
not_answered_alike sent full like =
    let same : Refused WorldFull ≡ Started 1 0 = sym (ap unnumbered (a_full_world_refuses sent full)) ∙ like.1 in
    absurd (cc (same))

-- yet the worlds before it are alike, however often the observer told a cut
they_were_alike : (times : ℕ) → IsFollowed 1 (filled (replicate times (Decided 0 (0 ∷ [])))) not_filled
they_were_alike times = (
  replicate times None,
  0,
  record {
    sheet = refl;
    issuer = refl;
    agents = refl;
    journals = refl;
    room = refl;
    votes = refl;
    other_votes = refl;
    nodes = same_voter;
    each_packet = length-replicate {A = Option ℕ} times None ∙ sym (length-replicate times (Decided 0 (0 ∷ [])));
    packets = λ k j e. absurd (none-some j (sym (get-replicate times k None (Some j) e)));
    rising = λ k l j m less e f. absurd (none-some j (sym (get-replicate times k None (Some j) e)));
    left_out = λ k e. (0, 0 ∷ [], get_copy times (Decided 0 (0 ∷ [])) k (let low = slice_get_within {A = Option ℕ} (replicate times None) k None e in let size = length-replicate {A = Option ℕ} times None in omega (arith, low, size)));
    no_other = λ j low. absurd (omega (arith, low));
    sent = refl;
    fewer = omega arith;
  },
)
  where
    same_voter : (i : ℕ) → i < 1 → slice_get not_filled.nodes i ≡ slice_get (filled (replicate times (Decided 0 (0 ∷ [])))).nodes i
    same_voter zero low = refl
    same_voter (suc i) low = absurd (omega (arith, low))
