-- A packet that has a period and a ballot is read by these first, whatever stands behind them.
use Rattle.std.proofs.Common.{◌≡◌, ℕ, ◌≤◌, List, [], ◌∷◌, length, Option, Some, None, refl, sym, ap, ap₂, ◌∙◌, arith}
use Rattle.metering_model.specs.Ballot.{Vote}
use Rattle.metering_model.specs.BatchReading.{fields_in}
use Rattle.metering_model.specs.Cut.{Cut}
use Rattle.metering_model.specs.World.{Packet, Promise, Accept, Accepted}
use Rattle.packet_text.specs.PacketText.{◌>>=◌, accept_in, accepted_in, ballot_in, node_in, period_in, promise_in, sent_cut_in, sent_vote_in}
use Rattle.packet_text.specs.Inner.Numbers.{Numbers, Sent, numbers_in, sent_in}
use Rattle.packet_text.proofs.Fields.{some_field}

numbers_by : (p b : List ℕ) (fs : List (List ℕ)) → 1 ≤ length fs → numbers_in (p ∷ b ∷ fs) ≡ (period_in p >>= λ n. ballot_in b >>= λ m. Some (record { period = n; ballot = m; rest = fs }))
numbers_by p b [] some = absurd (omega (arith, some))
numbers_by p b (f ∷ fs) some = refl

pub few_numbers : (fs : List (List ℕ)) → length fs ≤ 2 → numbers_in fs ≡ None
few_numbers [] few = refl
few_numbers (p ∷ []) few = refl
few_numbers (p ∷ b ∷ []) few = refl
few_numbers (p ∷ b ∷ f ∷ fs) few = absurd (omega (arith, few))

-- a period and a ballot that were found, or not, with these fields behind them
abbrev pub both_found : Option ℕ → Option ℕ → List (List ℕ) → Option Numbers
both_found period ballot fs = period >>= λ n. ballot >>= λ m. Some (record { period = n; ballot = m; rest = fs })

-- a text has a field, so others stand behind these two
pub numbers_of : (fields : List (List ℕ)) (p b t : List ℕ) (period ballot : Option ℕ) → fields ≡ p ∷ b ∷ fields_in t → period ≡ period_in p → ballot ≡ ballot_in b
    → numbers_in fields ≡ both_found period ballot (fields_in t)
numbers_of fields p b t period ballot are is_period is_ballot =
    ap numbers_in are ∙ numbers_by p b (fields_in t) (some_field t) ∙ ap₂ (λ n m. both_found n m (fields_in t)) (sym is_period) (sym is_ballot)

-- ---- what is read behind both

abbrev With : Type 0
With = ℕ → ℕ → List (List ℕ) → Option Packet

none_by : (o q : Option ℕ) (h : With) → ((n m : ℕ) → h n m [] ≡ None) → (o >>= λ n. q >>= λ m. h n m []) ≡ None
none_by None q h none = refl
none_by (Some n) None h none = refl
none_by (Some n) (Some m) h none = none n m

some_by : (o q : Option ℕ) (fs : List (List ℕ)) (h : With)
    → (o >>= λ n. q >>= λ m. h n m fs) ≡ ((o >>= λ n. q >>= λ m. Some (record { period = n; ballot = m; rest = fs })) >>= λ (x : Numbers). h x.period x.ballot x.rest)
some_by None q fs h = refl
some_by (Some n) None fs h = refl
some_by (Some n) (Some m) fs h = refl

both_by : (p b : List ℕ) (fs : List (List ℕ)) (h : With) → ((n m : ℕ) → h n m [] ≡ None)
    → (period_in p >>= λ n. ballot_in b >>= λ m. h n m fs) ≡ (numbers_in (p ∷ b ∷ fs) >>= λ (x : Numbers). h x.period x.ballot x.rest)
both_by p b [] h none = none_by (period_in p) (ballot_in b) h none
both_by p b (f ∷ fs) h none = some_by (period_in p) (ballot_in b) (f ∷ fs) h

no_node : (o : Option ℕ) → ◌≡◌ {A = Option Packet} None (o >>= λ i. None)
no_node None = refl
no_node (Some i) = refl

at_node : (o : Option ℕ) (f g : ℕ → Option Packet) → ((i : ℕ) → f i ≡ g i) → (o >>= f) ≡ (o >>= g)
at_node None f g same = refl
at_node (Some i) f g same = same i

-- ---- packets

abbrev cut_behind : With
cut_behind n m fs = sent_cut_in fs >>= λ (c : Cut). Some (Accept n m c)

abbrev with_cut_of : ℕ → With
with_cut_of i n m fs = sent_cut_in fs >>= λ (c : Cut). Some (Accepted i n m c)

abbrev with_vote_of : ℕ → With
with_vote_of i n m fs = sent_vote_in fs >>= λ (v : Option Vote). Some (Promise i n m v)

abbrev pub with_cut : Option Cut → Numbers → Option Packet
with_cut cut x = cut >>= λ (c : Cut). Some (Accept x.period x.ballot c)

pub accept_by : (fs : List (List ℕ)) → accept_in fs ≡ (numbers_in fs >>= λ (x : Numbers). with_cut (sent_cut_in x.rest) x)
accept_by [] = refl
accept_by (p ∷ []) = refl
accept_by (p ∷ b ∷ fs) = both_by p b fs cut_behind (λ n m. refl)

accepted_by : (from : List ℕ) (fs : List (List ℕ))
    → accepted_in (from ∷ fs) ≡ (node_in from >>= λ i. numbers_in fs >>= λ (x : Numbers). sent_cut_in x.rest >>= λ (c : Cut). Some (Accepted i x.period x.ballot c))
accepted_by from [] = no_node (node_in from)
accepted_by from (p ∷ []) = no_node (node_in from)
accepted_by from (p ∷ b ∷ fs) =
    at_node (node_in from) (λ i. period_in p >>= λ n. ballot_in b >>= λ m. with_cut_of i n m fs) (λ i. numbers_in (p ∷ b ∷ fs) >>= λ (x : Numbers). with_cut_of i x.period x.ballot x.rest)
    (λ i. both_by p b fs (with_cut_of i) (λ n m. refl))

promise_by : (from : List ℕ) (fs : List (List ℕ))
    → promise_in (from ∷ fs) ≡ (node_in from >>= λ i. numbers_in fs >>= λ (x : Numbers). sent_vote_in x.rest >>= λ (v : Option Vote). Some (Promise i x.period x.ballot v))
promise_by from [] = no_node (node_in from)
promise_by from (p ∷ []) = no_node (node_in from)
promise_by from (p ∷ b ∷ fs) =
    at_node (node_in from) (λ i. period_in p >>= λ n. ballot_in b >>= λ m. with_vote_of i n m fs) (λ i. numbers_in (p ∷ b ∷ fs) >>= λ (x : Numbers). with_vote_of i x.period x.ballot x.rest)
    (λ i. both_by p b fs (with_vote_of i) (λ n m. refl))

-- ---- with the node that sends it

-- a node alone
pub sent_alone : (t : List ℕ) → sent_in (t ∷ []) ≡ None
sent_alone t = by (node_in t)
  where
    by : (o : Option ℕ) → (o >>= λ i. ◌>>=◌ {A = Numbers} {B = Sent} None (λ n. Some (record { from = i; numbers = n }))) ≡ None
    by None = refl
    by (Some i) = refl

sent_steps : (o : Option ℕ) (q : Option Numbers) (f : ℕ → Numbers → Option Packet)
    → (o >>= λ i. q >>= λ (x : Numbers). f i x) ≡ ((o >>= λ i. q >>= λ (x : Numbers). Some (record { from = i; numbers = x })) >>= λ (s : Sent). f s.from s.numbers)
sent_steps None q f = refl
sent_steps (Some i) None f = refl
sent_steps (Some i) (Some x) f = refl

abbrev pub promise_with : Option (Option Vote) → Sent → Option Packet
promise_with vote s = vote >>= λ (v : Option Vote). Some (Promise s.from s.numbers.period s.numbers.ballot v)

pub promise_sent : (fs : List (List ℕ)) → promise_in fs ≡ (sent_in fs >>= λ (s : Sent). promise_with (sent_vote_in s.numbers.rest) s)
promise_sent [] = refl
promise_sent (from ∷ fs) = promise_by from fs ∙ sent_steps (node_in from) (numbers_in fs) (λ i x. sent_vote_in x.rest >>= λ (v : Option Vote). Some (Promise i x.period x.ballot v))

abbrev pub accepted_with : Option Cut → Sent → Option Packet
accepted_with cut s = cut >>= λ (c : Cut). Some (Accepted s.from s.numbers.period s.numbers.ballot c)

pub accepted_sent : (fs : List (List ℕ)) → accepted_in fs ≡ (sent_in fs >>= λ (s : Sent). accepted_with (sent_cut_in s.numbers.rest) s)
accepted_sent [] = refl
accepted_sent (from ∷ fs) = accepted_by from fs ∙ sent_steps (node_in from) (numbers_in fs) (λ i x. sent_cut_in x.rest >>= λ (c : Cut). Some (Accepted i x.period x.ballot c))
