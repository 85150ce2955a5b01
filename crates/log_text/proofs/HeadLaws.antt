-- A log's head line is read as its head exactly where it is joined from that.
use Rattle.std.proofs.Common.{◌≡◌, ℕ, ◌+◌, true, List, [], ◌∷◌, ◌++◌, Some, Ok, decimal, codes, refl, sym, ap, ap₂, ◌∙◌, subst, arith}
use Rattle.std.specs.Prelude.{nat_le}
use Rattle.std.specs.List.{list_all, join_with_byte}
use Rattle.std.proofs.lemmas.Bool.{and_parts, and_from, leb-true, le-leb, ltb-true}
use Rattle.std.proofs.lemmas.Option.{none-some}
use Rattle.metering_model.specs.Batch.{lacks}
use Rattle.metering_model.specs.BatchReading.{fields_in, is_same, whole_in}
use Rattle.metering_model.proofs.StepLaws.{some_iff, test_iff, ok_same}
use Rattle.metering_model.proofs.FieldBytes.{is_inner}
use Rattle.metering_model.proofs.FieldLaws.{same_read, whole_read, whole_written}
use Rattle.metering_model.proofs.LineLaws.{bars_lack, line_lacks_feed}
use Rattle.metering_model.proofs.Splitting.{cut_join, join_cut}
use Rattle.packet_text.specs.PacketText.{is_group}
use Rattle.packet_text.proofs.OptionSteps.{chosen, mapped_some}
use Rattle.packet_text.proofs.SentNumbers.{group_is_inner, number_is_inner}
use Rattle.log_text.specs.LogText.{Who, NodeOf, AgentOf, LogHead, IsLogHead, head_fields, head_in, is_among, who_fields, who_in}

abbrev pub head_line : LogHead → List ℕ
head_line h = join_with_byte 124 (head_fields h)

-- ---- from reading

who_read : (word number : List ℕ) (w : Who) → who_in word number ≡ Some w → word ∷ number ∷ [] ≡ who_fields w
who_read word number w =
    let Is : Type 0 = word ∷ number ∷ [] ≡ who_fields w in
    chosen _ _ _ w Is (λ same h. node same (mapped_some NodeOf (whole_in 0 98 number) w h))
    (chosen _ _ _ w Is (λ same h. agent same (mapped_some AgentOf (whole_in 1 64 number) w h)) (λ h. absurd (none-some w h)))
  where
    node : is_same word (codes "node") ≡ true → (i : ℕ) × (whole_in 0 98 number ≡ Some i) × (NodeOf i ≡ w) → word ∷ number ∷ [] ≡ who_fields w
    node same p =
        let one = whole_read 0 98 number p.0 (omega arith) p.1 in
        subst (λ v. word ∷ number ∷ [] ≡ who_fields v) p.2 (ap₂ (λ s t. s ∷ t ∷ []) (same_read word (codes "node") same) one.0)

    agent : is_same word (codes "agent") ≡ true → (i : ℕ) × (whole_in 1 64 number ≡ Some i) × (AgentOf i ≡ w) → word ∷ number ∷ [] ≡ who_fields w
    agent same p =
        let one = whole_read 1 64 number p.0 (omega arith) p.1 in
        subst (λ v. word ∷ number ∷ [] ≡ who_fields v) p.2 (ap₂ (λ s t. s ∷ t ∷ []) (same_read word (codes "agent") same) one.0)

abbrev IsHeadOf : List (List ℕ) → LogHead → Type 0
IsHeadOf fs h = (fs ≡ head_fields h) × IsLogHead h

head_is : (version group word number voters observers agents : List ℕ) (w : Who) (v o a : ℕ) → is_same version (codes "G1") ≡ true → is_group group ≡ true → who_in word number ≡ Some w
    → whole_in 1 99 voters ≡ Some v → whole_in 0 99 observers ≡ Some o → whole_in 1 64 agents ≡ Some a → nat_le (v + o) 99 ≡ true → is_among w (v + o) a ≡ true
    → IsHeadOf (version ∷ group ∷ word ∷ number ∷ voters ∷ observers ∷ agents ∷ []) (record { group = group; who = w; voters = v; observers = o; agents = a })
head_is version group word number voters observers agents w v o a format name who voting observing among few own =
    let voting = whole_read 1 99 voters v (omega arith) voting in
    let observing = whole_read 0 99 observers o (omega arith) observing in
    let among = whole_read 1 64 agents a (omega arith) among in
    let front = ap₂ (λ t fs. t ∷ group ∷ fs) (same_read version (codes "G1") format) (who_read word number w who) in
    let back = ap₂ ◌∷◌ voting.0 (ap₂ ◌∷◌ observing.0 (ap (λ t. t ∷ []) among.0)) in
    (ap₂ ◌++◌ front back, record { group = name; voters = voting.1; nodes = leb-true (v + o) 99 few; agents = (among.1, among.2); who = own })

fields_read : (fs : List (List ℕ)) (h : LogHead) → head_in fs ≡ Ok h → IsHeadOf fs h
fields_read (version ∷ group ∷ word ∷ number ∷ voters ∷ observers ∷ agents ∷ []) h e =
    let a = simp (some_iff, test_iff) at e in
    let who = a.1.1 in
    let v = who.2 in
    let o = v.2 in
    let n = o.2 in
    let is : LogHead = record { group = group; who = who.0; voters = v.0; observers = o.0; agents = n.0 } in
    subst (IsHeadOf (version ∷ group ∷ word ∷ number ∷ voters ∷ observers ∷ agents ∷ [])) {x = is} (ok_same is h n.2.1.1)
    (head_is version group word number voters observers agents who.0 v.0 o.0 n.0 a.0 a.1.0 who.1 v.1 o.1 n.1 n.2.0 n.2.1.0)
fields_read fs h e = absurd (cc)

-- a line that is read as a head is its line
pub head_read : (l : List ℕ) (h : LogHead) → head_in (fields_in l) ≡ Ok h → (l ≡ head_line h) × IsLogHead h
head_read l h e =
    let r = fields_read (fields_in l) h e in
    (sym (join_cut 124 l) ∙ ap (join_with_byte 124) r.0, r.1)

-- ---- to reading

who_is_inner : (w : Who) (fs : List (List ℕ)) → list_all (list_all is_inner) fs ≡ true → list_all (list_all is_inner) (who_fields w ++ fs) ≡ true
who_is_inner (NodeOf i) fs h = and_from _ _ refl (and_from _ _ (number_is_inner i) h)
who_is_inner (AgentOf a) fs h = and_from _ _ refl (and_from _ _ (number_is_inner a) h)

head_is_inner : (h : LogHead) → IsLogHead h → list_all (list_all is_inner) (head_fields h) ≡ true
head_is_inner h is =
    and_from _ _ refl (and_from _ _ (group_is_inner h.group is.group)
    (who_is_inner h.who (decimal h.voters ∷ decimal h.observers ∷ decimal h.agents ∷ []) (simp (number_is_inner h.voters, number_is_inner h.observers, number_is_inner h.agents))))

fields_written : (group : List ℕ) (w : Who) (v o a : ℕ) → IsLogHead (record { group = group; who = w; voters = v; observers = o; agents = a })
    → head_in (head_fields (record { group = group; who = w; voters = v; observers = o; agents = a })) ≡ Ok (record { group = group; who = w; voters = v; observers = o; agents = a })
fields_written group (NodeOf i) v o a h =
    let nodes = h.nodes in
    let low = ltb-true i (v + o) h.who in
    let own = whole_written 0 98 i (omega arith) (omega arith) (omega (arith, nodes, low)) in
    let voting = whole_written 1 99 v (omega arith) h.voters (omega (arith, nodes)) in
    let observing = whole_written 0 99 o (omega arith) (omega arith) (omega (arith, nodes)) in
    simp (h.group, own, voting, observing, whole_written 1 64 a (omega arith) h.agents.0 h.agents.1, le-leb (v + o) 99 nodes, h.who)
fields_written group (AgentOf i) v o a h =
    let nodes = h.nodes in
    let tests = and_parts (nat_le 1 i) (nat_le i a) h.who in
    let some = leb-true 1 i tests.0 in
    let low = leb-true i a tests.1 in
    let most = h.agents.1 in
    let own = whole_written 1 64 i (omega arith) some (omega (arith, low, most)) in
    let voting = whole_written 1 99 v (omega arith) h.voters (omega (arith, nodes)) in
    let observing = whole_written 0 99 o (omega arith) (omega arith) (omega (arith, nodes)) in
    simp (h.group, own, voting, observing, whole_written 1 64 a (omega arith) h.agents.0 h.agents.1, le-leb (v + o) 99 nodes, tests.0, tests.1)

fields_back : (h : LogHead) → IsLogHead h → fields_in (head_line h) ≡ head_fields h
fields_back h is = cut_join 124 (codes "G1") (h.group ∷ who_fields h.who ++ decimal h.voters ∷ decimal h.observers ∷ decimal h.agents ∷ []) (bars_lack (head_fields h) (head_is_inner h is))

-- its line is read as it
pub head_written : (h : LogHead) → IsLogHead h → head_in (fields_in (head_line h)) ≡ Ok h
head_written h is = ap head_in (fields_back h is) ∙ fields_written h.group h.who h.voters h.observers h.agents is

pub head_lacks_feed : (h : LogHead) → IsLogHead h → lacks 10 (head_line h) ≡ true
head_lacks_feed h is = line_lacks_feed (head_fields h) (head_is_inner h is)
