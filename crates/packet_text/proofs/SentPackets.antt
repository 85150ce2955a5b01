-- Packets of each form: what is read of their fields and of what stands below is what these are written as.
use Rattle.std.proofs.Common.{◌≡◌, ℕ, true, List, [], ◌∷◌, Option, Some, None, decimal, codes, refl, sym, ap, ap₂, ◌∙◌, subst, arith, eqb-true, eq-eqb}
use Rattle.std.specs.List.{list_all}
use Rattle.std.proofs.lemmas.Bool.{false≢true}
use Rattle.std.proofs.lemmas.Option.{same_Some, none-some}
use Rattle.metering_model.specs.Batch.{batch_text, is_empty}
use Rattle.metering_model.specs.BatchReading.{is_same, batch_in}
use Rattle.metering_model.specs.Cut.{Cut}
use Rattle.metering_model.specs.Ballot.{Vote}
use Rattle.metering_model.specs.World.{Packet, CarriesBatch, Prepare, Promise, Accept, Accepted, Decided}
use Rattle.metering_model.proofs.FieldLaws.{same_read, whole_read, whole_written}
use Rattle.metering_model.proofs.FieldBytes.{is_inner}
use Rattle.metering_model.proofs.BatchLaws.{batch_read, batch_written, IsWellFormed-read}
use Rattle.packet_text.specs.PacketText.{IsSent, accept_in, accepted_in, ballot_in, batch_packet_in, decided_in, line_packet_in, lines_of_batch, node_in, packet_fields, period_in, prepare_in, promise_in, sent_cut_in, sent_vote_in, text_below, word_packet_in}
use Rattle.packet_text.proofs.OptionSteps.{chosen, step_iff, test_iff, was_ok}
use Rattle.packet_text.proofs.SentNumbers.{ballot_read, ballot_written, entries_are_inner, node_read, node_written, number_is_inner, period_read, period_written, sent_cut_read, sent_cut_written, sent_vote_read, sent_vote_written, vote_is_inner}

-- The packet's own fields are this word and these numbers, this stands below, and its numbers are within their limits.
pub record IsOf (word : List ℕ) (numbers : List (List ℕ)) (below : List ℕ) (p : Packet) : Type 0 where
  pub fields : word ∷ numbers ≡ packet_fields p
  pub under : below ≡ text_below p
  pub limits : IsSent p

-- ---- from reading

prepare_read : (fs : List (List ℕ)) (p : Packet) → prepare_in fs ≡ Some p → IsOf (codes "prepare") fs [] p
prepare_read [] p h = absurd (none-some p h)
prepare_read (period ∷ []) p h = absurd (none-some p h)
prepare_read (period ∷ ballot ∷ []) p h =
    let n = simp step_iff at h in
    let b = n.2 in
    let one = period_read period n.0 n.1 in
    let two = ballot_read ballot b.0 b.1 in
    subst (IsOf (codes "prepare") (period ∷ ballot ∷ []) []) {x = Prepare n.0 b.0} (same_Some (Prepare n.0 b.0) p b.2)
    (record { fields = ap₂ (λ x y. codes "prepare" ∷ x ∷ y ∷ []) one.0 two.0; under = refl; limits = (one.1, two.1) })
prepare_read (period ∷ ballot ∷ f ∷ fs) p h = absurd (none-some p h)

promise_is : (from period ballot : List ℕ) (vote : List (List ℕ)) (i n b : ℕ) (v : Option Vote) → node_in from ≡ Some i → period_in period ≡ Some n → ballot_in ballot ≡ Some b → sent_vote_in vote ≡ Some v →
    IsOf (codes "promise") (from ∷ period ∷ ballot ∷ vote) [] (Promise i n b v)
promise_is from period ballot vote i n b v node one two told =
    let node = node_read from i node in
    let one = period_read period n one in
    let two = ballot_read ballot b two in
    let told = sent_vote_read vote v told in
    record {
      fields = ap (λ fs. codes "promise" ∷ fs) (ap₂ ◌∷◌ node.0 (ap₂ ◌∷◌ one.0 (ap₂ ◌∷◌ two.0 told.0)));
      under = refl;
      limits = (node.1, one.1, two.1, told.1);
    }

promise_read : (fs : List (List ℕ)) (p : Packet) → promise_in fs ≡ Some p → IsOf (codes "promise") fs [] p
promise_read [] p h = absurd (none-some p h)
promise_read (from ∷ []) p h = absurd (none-some p h)
promise_read (from ∷ period ∷ []) p h = absurd (none-some p h)
promise_read (from ∷ period ∷ ballot ∷ vote) p h =
    let i = simp step_iff at h in
    let n = i.2 in
    let b = n.2 in
    let v = b.2 in
    subst (IsOf (codes "promise") (from ∷ period ∷ ballot ∷ vote) []) {x = Promise i.0 n.0 b.0 v.0} (same_Some (Promise i.0 n.0 b.0 v.0) p v.2)
    (promise_is from period ballot vote i.0 n.0 b.0 v.0 i.1 n.1 b.1 v.1)

accept_read : (fs : List (List ℕ)) (p : Packet) → accept_in fs ≡ Some p → IsOf (codes "accept") fs [] p
accept_read [] p h = absurd (none-some p h)
accept_read (period ∷ []) p h = absurd (none-some p h)
accept_read (period ∷ ballot ∷ cut) p h =
    let n = simp step_iff at h in
    let b = n.2 in
    let c = b.2 in
    let one = period_read period n.0 n.1 in
    let two = ballot_read ballot b.0 b.1 in
    let all = sent_cut_read cut c.0 c.1 in
    subst (IsOf (codes "accept") (period ∷ ballot ∷ cut) []) {x = Accept n.0 b.0 c.0} (same_Some (Accept n.0 b.0 c.0) p c.2)
    (record {
      fields = ap (λ fs. codes "accept" ∷ fs) (ap₂ ◌∷◌ one.0 (ap₂ ◌∷◌ two.0 all.0));
      under = refl;
      limits = (one.1, two.1, all.1);
    })

accepted_is : (from period ballot : List ℕ) (cut : List (List ℕ)) (i n b : ℕ) (c : Cut) → node_in from ≡ Some i → period_in period ≡ Some n → ballot_in ballot ≡ Some b → sent_cut_in cut ≡ Some c →
    IsOf (codes "accepted") (from ∷ period ∷ ballot ∷ cut) [] (Accepted i n b c)
accepted_is from period ballot cut i n b c node one two all =
    let node = node_read from i node in
    let one = period_read period n one in
    let two = ballot_read ballot b two in
    let all = sent_cut_read cut c all in
    record {
      fields = ap (λ fs. codes "accepted" ∷ fs) (ap₂ ◌∷◌ node.0 (ap₂ ◌∷◌ one.0 (ap₂ ◌∷◌ two.0 all.0)));
      under = refl;
      limits = (node.1, one.1, two.1, all.1);
    }

accepted_read : (fs : List (List ℕ)) (p : Packet) → accepted_in fs ≡ Some p → IsOf (codes "accepted") fs [] p
accepted_read [] p h = absurd (none-some p h)
accepted_read (from ∷ []) p h = absurd (none-some p h)
accepted_read (from ∷ period ∷ []) p h = absurd (none-some p h)
accepted_read (from ∷ period ∷ ballot ∷ cut) p h =
    let i = simp step_iff at h in
    let n = i.2 in
    let b = n.2 in
    let c = b.2 in
    subst (IsOf (codes "accepted") (from ∷ period ∷ ballot ∷ cut) []) {x = Accepted i.0 n.0 b.0 c.0} (same_Some (Accepted i.0 n.0 b.0 c.0) p c.2)
    (accepted_is from period ballot cut i.0 n.0 b.0 c.0 i.1 n.1 b.1 c.1)

decided_read : (fs : List (List ℕ)) (p : Packet) → decided_in fs ≡ Some p → IsOf (codes "decided") fs [] p
decided_read [] p h = absurd (none-some p h)
decided_read (period ∷ cut) p h =
    let n = simp step_iff at h in
    let c = n.2 in
    let one = period_read period n.0 n.1 in
    let all = sent_cut_read cut c.0 c.1 in
    subst (IsOf (codes "decided") (period ∷ cut) []) {x = Decided n.0 c.0} (same_Some (Decided n.0 c.0) p c.2)
    (record { fields = ap (λ fs. codes "decided" ∷ fs) (ap₂ ◌∷◌ one.0 all.0); under = refl; limits = (one.1, all.1) })

batch_packet_read : (fs : List (List ℕ)) (below : List ℕ) (p : Packet) → batch_packet_in fs below ≡ Some p → IsOf (codes "batch") fs below p
batch_packet_read [] below p h = absurd (none-some p h)
batch_packet_read (lines ∷ []) below p h =
    let n = simp (test_iff, step_iff) at h in
    let b = n.2 in
    let t = b.2 in
    let is_batch = was_ok (batch_in below) b.0 b.1 in
    let count = whole_read 1 1_001 lines n.0 (omega arith) n.1 in
    let same = eqb-true n.0 (lines_of_batch b.0) t.0 in
    subst (IsOf (codes "batch") (lines ∷ []) below) {x = CarriesBatch b.0} (same_Some (CarriesBatch b.0) p t.1)
    (record {
      fields = ap (λ f. codes "batch" ∷ f ∷ []) (count.0 ∙ ap decimal same);
      under = (batch_read below b.0 is_batch).joined;
      limits = IsWellFormed-read below b.0 is_batch;
    })
batch_packet_read (lines ∷ f ∷ fs) below p h = absurd (none-some p h)

-- with the word that was tested
under_word : (word known : List ℕ) (fs : List (List ℕ)) (below : List ℕ) (p : Packet) → is_same word known ≡ true → IsOf known fs below p → IsOf word fs below p
under_word word known fs below p same is = subst (λ t. IsOf t fs below p) (sym (same_read word known same)) is

line_packet_read : (word : List ℕ) (fs : List (List ℕ)) (p : Packet) → line_packet_in word fs ≡ Some p → IsOf word fs [] p
line_packet_read word fs p =
    let is = IsOf word fs [] p in
    chosen _ _ _ p is (λ same h. under_word word (codes "prepare") fs [] p same (prepare_read fs p h))
    (chosen _ _ _ p is (λ same h. under_word word (codes "promise") fs [] p same (promise_read fs p h))
    (chosen _ _ _ p is (λ same h. under_word word (codes "accept") fs [] p same (accept_read fs p h))
    (chosen _ _ _ p is (λ same h. under_word word (codes "accepted") fs [] p same (accepted_read fs p h))
    (chosen _ _ _ p is (λ same h. under_word word (codes "decided") fs [] p same (decided_read fs p h)) (λ h. absurd (none-some p h))))))

nothing_below : (word : List ℕ) (fs : List (List ℕ)) (below : List ℕ) (p : Packet) → is_empty below ≡ true → IsOf word fs [] p → IsOf word fs below p
nothing_below word fs [] p none is = is
nothing_below word fs (c ∷ cs) p none is = absurd (false≢true none)

pub word_packet_read : (word : List ℕ) (fs : List (List ℕ)) (below : List ℕ) (p : Packet) → word_packet_in word fs below ≡ Some p → IsOf word fs below p
word_packet_read word fs below p =
    let is = IsOf word fs below p in
    chosen _ _ _ p is (λ same h. under_word word (codes "batch") fs below p same (batch_packet_read fs below p h))
    (chosen _ _ _ p is (λ none h. nothing_below word fs below p none (line_packet_read word fs p h)) (λ h. absurd (none-some p h)))

-- ---- to reading

-- what a packet's own fields, its word first, are read as
abbrev pub own_packet_in : List (List ℕ) → List ℕ → Option Packet
own_packet_in [] below = None
own_packet_in (word ∷ numbers) below = word_packet_in word numbers below

pub own_packet_written : (p : Packet) → IsSent p → own_packet_in (packet_fields p) (text_below p) ≡ Some p
own_packet_written (CarriesBatch b) h =
    let few = h.count in
    let n = lines_of_batch b in
    simp (whole_written 1 1_001 n (omega arith) (omega arith) (omega (arith, few)), batch_written (batch_text b) b h, eq-eqb n n refl)
own_packet_written (Prepare period ballot) h = simp (period_written period h.0, ballot_written ballot h.1)
own_packet_written (Promise from period ballot vote) h =
    simp (node_written from h.0, period_written period h.1, ballot_written ballot h.2, sent_vote_written vote h.3)
own_packet_written (Accept period ballot cut) h = simp (period_written period h.0, ballot_written ballot h.1, sent_cut_written cut h.2)
own_packet_written (Accepted from period ballot cut) h =
    simp (node_written from h.0, period_written period h.1, ballot_written ballot h.2, sent_cut_written cut h.3)
own_packet_written (Decided period cut) h = simp (period_written period h.0, sent_cut_written cut h.1)

-- ---- bytes

pub fields_are_inner : (p : Packet) → list_all (list_all is_inner) (packet_fields p) ≡ true
fields_are_inner (CarriesBatch b) = simp (number_is_inner (lines_of_batch b))
fields_are_inner (Prepare period ballot) = simp (number_is_inner period, number_is_inner ballot)
fields_are_inner (Promise from period ballot vote) = simp (number_is_inner from, number_is_inner period, number_is_inner ballot, vote_is_inner vote)
fields_are_inner (Accept period ballot cut) = simp (number_is_inner period, number_is_inner ballot, entries_are_inner cut)
fields_are_inner (Accepted from period ballot cut) = simp (number_is_inner from, number_is_inner period, number_is_inner ballot, entries_are_inner cut)
fields_are_inner (Decided period cut) = simp (number_is_inner period, entries_are_inner cut)
