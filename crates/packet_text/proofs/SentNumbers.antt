-- Numbers, cuts and votes of a packet: each is read just where it is written, and has no byte at which lines are cut.
use Rattle.std.proofs.Common.{◌≡◌, ℕ, suc, ◌≤◌, true, ◌&&◌, List, [], ◌∷◌, length, map, All, Option, Some, None, decimal, codes, refl, ap, ap₂, ◌∙◌, subst, arith, eq-eqb, leb-true, le-leb}
use Rattle.std.specs.Prelude.{◌==◌, nat_le}
use Rattle.std.specs.List.{list_all}
use Rattle.std.specs.Option.{option_map}
use Rattle.std.proofs.lemmas.Bool.{and_parts, and_from, cond-true}
use Rattle.std.proofs.lemmas.Bool.Decides.{nat_tests}
use Rattle.std.proofs.lemmas.List.{length-map}
use Rattle.std.proofs.lemmas.List.Elements.{All-nil, All-cons, All-head, All-tail}
use Rattle.std.proofs.lemmas.Option.{cond_some, same_Some, none-some}
use Rattle.metering_model.specs.NumberText.{is_digit}
use Rattle.metering_model.specs.Dates.{IsPeriod}
use Rattle.metering_model.specs.BatchReading.{is_same, whole_in, with_first, all_some}
use Rattle.metering_model.specs.Cut.{Cut}
use Rattle.metering_model.specs.Ballot.{Vote}
use Rattle.metering_model.specs.KeptText.{IsBallotNumber, cut_in}
use Rattle.metering_model.proofs.Decimals.{decimal_is_digits}
use Rattle.metering_model.proofs.FieldLaws.{same_read, whole_read, whole_written}
use Rattle.metering_model.proofs.FieldBytes.{is_inner}
use Rattle.metering_model.proofs.Splitting.{list_all_weaker}
use Rattle.packet_text.specs.PacketText.{IsSentCut, IsSentVote, ballot_in, is_group, is_group_byte, node_in, period_in, sent_cut_in, sent_vote_in, some_vote_in, vote_fields}
use Rattle.packet_text.proofs.OptionSteps.{chosen_first, mapped_some, step_iff}

-- ---- numbers

pub period_read : (t : List ℕ) (n : ℕ) → period_in t ≡ Some n → (t ≡ decimal n) × IsPeriod n
period_read t n h = let r = whole_read 0 1_199 t n (omega arith) h in (r.0, let most = r.2 in omega (arith, most))

pub period_written : (n : ℕ) → IsPeriod n → period_in (decimal n) ≡ Some n
period_written n h = whole_written 0 1_199 n (omega arith) (omega arith) (omega (arith, h))

pub ballot_read : (t : List ℕ) (n : ℕ) → ballot_in t ≡ Some n → (t ≡ decimal n) × IsBallotNumber n
ballot_read t n h = let r = whole_read 1 990_098 t n (omega arith) h in (r.0, (r.1, r.2))

pub ballot_written : (n : ℕ) → IsBallotNumber n → ballot_in (decimal n) ≡ Some n
ballot_written n h = whole_written 1 990_098 n (omega arith) h.0 h.1

pub node_read : (t : List ℕ) (n : ℕ) → node_in t ≡ Some n → (t ≡ decimal n) × (n ≤ 98)
node_read t n h = let r = whole_read 0 98 t n (omega arith) h in (r.0, r.2)

pub node_written : (n : ℕ) → n ≤ 98 → node_in (decimal n) ≡ Some n
node_written n h = whole_written 0 98 n (omega arith) (omega arith) h

-- ---- cuts

abbrev pub IsLow : ℕ → Type 0
IsLow seq = seq ≤ 1_000_000

abbrev AreEntries : List (List ℕ) → List ℕ → Type 0
AreEntries fs cut = (fs ≡ map decimal cut) × (length cut ≡ length fs) × All IsLow cut

entries_read : (fs : List (List ℕ)) (cut : List ℕ) → all_some (map (whole_in 0 1_000_000) fs) ≡ Some cut → AreEntries fs cut
entries_read [] cut h = subst (AreEntries []) (same_Some [] cut h) (refl, refl, All-nil IsLow)
entries_read (f ∷ fs) cut h = both (whole_in 0 1_000_000 f) (all_some (map (whole_in 0 1_000_000) fs)) refl (λ xs e. entries_read fs xs e) h
  where
    both : (o : Option ℕ) (os : Option (List ℕ)) → whole_in 0 1_000_000 f ≡ o → ((xs : List ℕ) → os ≡ Some xs → AreEntries fs xs) → with_first o os ≡ Some cut → AreEntries (f ∷ fs) cut
    both (Some x) (Some xs) e later k =
        let one = whole_read 0 1_000_000 f x (omega arith) e in
        let more = later xs refl in
        subst (AreEntries (f ∷ fs)) (same_Some (x ∷ xs) cut k) (ap₂ ◌∷◌ one.0 more.0, ap suc more.1, All-cons IsLow x xs one.2 more.2)
    both (Some x) None e later k = absurd (none-some cut k)
    both None os e later k = absurd (none-some cut k)

entries_written : (cut : List ℕ) → All IsLow cut → all_some (map (whole_in 0 1_000_000) (map decimal cut)) ≡ Some cut
entries_written [] h = refl
entries_written (x ∷ xs) h = ap₂ with_first (whole_written 0 1_000_000 x (omega arith) (omega arith) (All-head IsLow x xs h)) (entries_written xs (All-tail IsLow x xs h))

pub sent_cut_read : (fs : List (List ℕ)) (cut : Cut) → sent_cut_in fs ≡ Some cut → (fs ≡ map decimal cut) × IsSentCut cut
sent_cut_read fs cut h =
    let n = length fs in
    let few = chosen_first (nat_le 1 n && nat_le n 64) (cut_in n fs) cut h in
    let limits = and_parts (nat_le 1 n) (nat_le n 64) few.0 in
    let some = leb-true 1 n limits.0 in
    let most = leb-true n 64 limits.1 in
    let are = entries_read fs cut (chosen_first (n == n) (all_some (map (whole_in 0 1_000_000) fs)) cut few.1).1 in
    let size = are.1 in
    (are.0, record { agents = (omega (arith, size, some), omega (arith, size, most)); low = are.2 })

pub sent_cut_written : (cut : Cut) → IsSentCut cut → sent_cut_in (map decimal cut) ≡ Some cut
sent_cut_written cut h =
    let fs = map decimal cut in
    let n = length fs in
    let size = length-map cut decimal in
    let some : 1 ≤ n = let low = h.agents.0 in omega (arith, size, low) in
    let most : n ≤ 64 = let high = h.agents.1 in omega (arith, size, high) in
    cond-true (nat_le 1 n && nat_le n 64) (cut_in n fs) None (and_from _ _ (le-leb 1 n some) (le-leb n 64 most))
    ∙ cond-true (n == n) (all_some (map (whole_in 0 1_000_000) fs)) None (eq-eqb n n refl)
    ∙ entries_written cut h.low

-- ---- votes

some_vote_read : (ballot : List ℕ) (cut : List (List ℕ)) (v : Vote) → some_vote_in ballot cut ≡ Some v → (ballot ∷ cut ≡ vote_fields (Some v)) × IsSentVote (Some v)
some_vote_read ballot cut v h =
    let b = simp step_iff at h in
    let c = b.2 in
    let one = ballot_read ballot b.0 b.1 in
    let all = sent_cut_read cut c.0 c.1 in
    let is : Vote = record { ballot = b.0; cut = c.0 } in
    subst (λ w. (ballot ∷ cut ≡ vote_fields (Some w)) × IsSentVote (Some w)) (same_Some is v c.2) (ap₂ ◌∷◌ one.0 all.0, (one.1, all.1))

pub sent_vote_read : (fs : List (List ℕ)) (vote : Option Vote) → sent_vote_in fs ≡ Some vote → (fs ≡ vote_fields vote) × IsSentVote vote
sent_vote_read [] vote h = absurd (none-some vote h)
sent_vote_read (none ∷ []) vote h =
    let p = cond_some (is_same none (codes "0")) None vote h in
    subst (λ v. (none ∷ [] ≡ vote_fields v) × IsSentVote v) p.1 (ap (λ t. t ∷ []) (same_read none (codes "0") p.0), tt)
sent_vote_read (ballot ∷ e ∷ es) vote h =
    let p = mapped_some Some (some_vote_in ballot (e ∷ es)) vote h in
    subst (λ v. (ballot ∷ e ∷ es ≡ vote_fields v) × IsSentVote v) p.2 (some_vote_read ballot (e ∷ es) p.0 p.1)

-- a vote has a cut
pub vote_goes_on : (ballot : List ℕ) (cut : List (List ℕ)) → 1 ≤ length cut → sent_vote_in (ballot ∷ cut) ≡ option_map Some (some_vote_in ballot cut)
vote_goes_on ballot [] some = absurd (omega (arith, some))
vote_goes_on ballot (e ∷ es) some = refl

pub sent_vote_written : (vote : Option Vote) → IsSentVote vote → sent_vote_in (vote_fields vote) ≡ Some vote
sent_vote_written None h = refl
sent_vote_written (Some v) h =
    let some = h.1.agents.0 in
    let size = length-map v.cut decimal in
    vote_goes_on (decimal v.ballot) (map decimal v.cut) (omega (arith, size, some)) ∙ simp (ballot_written v.ballot h.0, sent_cut_written v.cut h.1)

-- ---- bytes

digit_inner : (c : ℕ) → is_digit c ≡ true → is_inner c ≡ true
digit_inner c h = grind (arith, nat_tests)

group_inner : (c : ℕ) → is_group_byte c ≡ true → is_inner c ≡ true
group_inner c h = grind (arith, nat_tests)

pub number_is_inner : (n : ℕ) → list_all is_inner (decimal n) ≡ true
number_is_inner n = list_all_weaker is_digit is_inner digit_inner (decimal n) (decimal_is_digits n)

pub group_is_inner : (name : List ℕ) → is_group name ≡ true → list_all is_inner name ≡ true
group_is_inner name h = list_all_weaker is_group_byte is_inner group_inner name (and_parts (nat_le 1 (length name) && nat_le (length name) 32) (list_all is_group_byte name) h).1

pub entries_are_inner : (cut : Cut) → list_all (list_all is_inner) (map decimal cut) ≡ true
entries_are_inner [] = refl
entries_are_inner (x ∷ xs) = and_from _ _ (number_is_inner x) (entries_are_inner xs)

pub vote_is_inner : (vote : Option Vote) → list_all (list_all is_inner) (vote_fields vote) ≡ true
vote_is_inner None = refl
vote_is_inner (Some v) = and_from _ _ (number_is_inner v.ballot) (entries_are_inner v.cut)
