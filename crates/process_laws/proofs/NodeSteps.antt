-- What becomes of processes and their world where a node acts: it sends a packet or none, or stays as it was.
use Rattle.std.proofs.Common.{◌≡◌, ℕ, zero, suc, ◌+◌, ◌≤◌, List, [], ◌∷◌, ◌++◌, length, refl, sym, ap, subst, ◌∙◌, arith, Option, Some, None, inl, inr, Result, Ok, Err, nat_lt}
use Rattle.std.specs.Prelude.{◌↔◌, slice_get, slice_set}
use Rattle.std.specs.List.{Contains}
use Rattle.std.proofs.lemmas.Bool.{cond-true, lt-ltb}
use Rattle.std.proofs.lemmas.Option.{same_Some, none-some}
use Rattle.std.proofs.lemmas.List.Elements.{Contains-append_left, Contains-push, Contains-push_cases}
use Rattle.metering_model.specs.FirstFailure.{◌>>=◌}
use Rattle.metering_model.specs.Holding.{Holding}
use Rattle.metering_model.specs.declared.Refusal.{Refusal}
use Rattle.metering_model.specs.declared.Refusal.TheVariants.{WorldFull}
use Rattle.metering_model.specs.World.{World, Node, Packet, Event, Reply, with_node_at, with_packet, next_packet}
use Rattle.metering_model.specs.Step.{Outcome, or_refused, step}
use Rattle.group_laws.proofs.Steps.{length-push}
use Rattle.process_laws.specs.LocalSteps.{Group, Words, saying, NodeDone, unmoved}
use Rattle.process_laws.specs.Histories.{Processes, Act, sent_with, with_node_done, IsSentAs, Tells, IsEventOf}
use Rattle.process_laws.proofs.Stands.{world_of, one_more, Stands, ByEvent, Comes}

-- ---- lists

set_found : {A : Type 0} (xs : List A) (i : ℕ) (x : A) → slice_get xs i ≡ Some x → slice_set xs i x ≡ xs
set_found [] i x e = refl
set_found (y ∷ xs) zero x e = ap (λ z. z ∷ xs) (sym (same_Some y x e))
set_found (y ∷ xs) (suc i) x e = ap (λ ys. y ∷ ys) (set_found xs i x e)

pub get_last : {A : Type 0} (xs : List A) (x : A) → slice_get (xs ++ x ∷ []) (length xs) ≡ Some x
get_last [] x = refl
get_last (y ∷ xs) x = get_last xs x

-- what is found at a place is what was put there, where there was something
pub get_set : {A : Type 0} (xs : List A) (i : ℕ) (x y : A) → slice_get xs i ≡ Some y → slice_get (slice_set xs i x) i ≡ Some x
get_set [] i x y e = absurd (none-some y e)
get_set (z ∷ xs) zero x y e = refl
get_set (z ∷ xs) (suc i) x y e = get_set xs i x y e

-- ---- what is sent

-- It is a packet more, or one that was sent before.
more_in : (xs ys : List Packet) (p : Packet) → ((q : Packet) → Contains xs q → Contains ys q)
    → (q : Packet) → Contains (xs ++ p ∷ []) q → Contains (ys ++ p ∷ []) q
more_in xs ys p all q has = elim (Contains-push_cases xs p q has) [
  | inl before ↦ Contains-append_left ys (p ∷ []) q (all q before)
  | inr now ↦ subst (Contains (ys ++ p ∷ [])) now (Contains-push ys p)
]

pub more_sent : (sent packets : List Packet) (p : Packet) → ((q : Packet) → Contains sent q ↔ Contains packets q)
    → (q : Packet) → Contains (sent ++ p ∷ []) q ↔ Contains (packets ++ p ∷ []) q
more_sent sent packets p same q = (more_in sent packets p (λ r. (same r).0) q, more_in packets sent p (λ r. (same r).1) q)

old_sent : (sent packets : List Packet) (p : Packet) → ((q : Packet) → Contains sent q ↔ Contains packets q) → Contains packets p
    → (q : Packet) → Contains (sent ++ p ∷ []) q ↔ Contains packets q
old_sent sent packets p same was q = (back, λ has. Contains-append_left sent (p ∷ []) q ((same q).1 has))
  where
    back : Contains (sent ++ p ∷ []) q → Contains packets q
    back has = elim (Contains-push_cases sent p q has) [ inl before ↦ (same q).0 before | inr now ↦ subst (Contains packets) now was ]

-- what becomes of a world whose node sends a packet, or none
abbrev pub done : World → ℕ → Node → Option Packet → (Option ℕ → Reply) → Result Outcome Refusal
done w i n None reply = Ok (reply None, with_node_at i n w)
done w i n (Some p) reply = next_packet w >>= λ k. Ok (reply (Some k), with_packet p (with_node_at i n w))

module _ (g : Group) (room : ℕ) (s : Processes) (journals : Holding) (packets : List Packet) (h : Stands g room s journals packets) where
  abbrev w : World
  w = world_of g room journals packets s.nodes

  pub next_is : length s.sent + 1 ≤ room → next_packet w ≡ Ok (length packets)
  next_is few =
      let fewer = h.fewer in
      cond-true (nat_lt (length packets) room) (Ok (length packets)) (Err WorldFull) (lt-ltb (length packets) room (omega (arith, fewer, few)))

  -- what was sent before is sent once more
  pub stands_sent : (p : Packet) → Contains packets p → Stands g room (record s { sent = s.sent ++ p ∷ [] }) journals packets
  stands_sent p sent = record {
    reached = h.reached;
    journals_of = h.journals_of;
    sent = old_sent s.sent packets p h.sent sent;
    fewer = let more = length-push s.sent p in let fewer = h.fewer in omega (arith, more, fewer);
  }

  module _ (i : ℕ) (a : Act) where
    -- the node acts, and sends a packet or none
    pub does : (d : NodeDone) (e : Event) (reply : Option ℕ → Reply) → IsEventOf w a e
        → ((v : World) (k : Option ℕ) → v.nodes ≡ slice_set s.nodes i d.node → IsSentAs v k d.answer.sends → Tells v a (reply k) d.answer)
        → step w e ≡ or_refused w (done w i d.node d.answer.sends reply) → Comes g room s journals packets a (with_node_done i d s)
    does d e reply is tells steps few = inl (by_sends d.answer.sends tells steps few)
      where
        by_sends : (sends : Option Packet) → ((v : World) (k : Option ℕ) → v.nodes ≡ slice_set s.nodes i d.node → IsSentAs v k sends
            → Tells v a (reply k) (record { words = d.answer.words; sends = sends }))
            → step w e ≡ or_refused w (done w i d.node sends reply) → length (sent_with sends s.sent) ≤ room
            → ByEvent g room s journals packets a (record { words = d.answer.words; sends = sends })
            (record s { nodes = slice_set s.nodes i d.node; sent = sent_with sends s.sent })
        by_sends None tells steps few = record {
          event = e;
          is = is;
          reply = reply None;
          journals_then = journals;
          packets_then = packets;
          steps = steps;
          tells = tells (world_of g room journals packets (slice_set s.nodes i d.node)) None refl tt;
          stands = record {
            reached = one_more g room w h.reached e (reply None, with_node_at i d.node w) steps;
            journals_of = h.journals_of;
            sent = h.sent;
            fewer = h.fewer;
          };
        }
        by_sends (Some p) tells steps few =
            let now : Outcome = (reply (Some (length packets)), with_packet p (with_node_at i d.node w)) in
            let more = length-push s.sent p in
            let leads : step w e ≡ now =
            steps ∙ ap (λ r. or_refused w (r >>= λ k. Ok (reply (Some k), with_packet p (with_node_at i d.node w)))) (next_is (omega (arith, more, few))) in
            record {
              event = e;
              is = is;
              reply = reply (Some (length packets));
              journals_then = journals;
              packets_then = packets ++ p ∷ [];
              steps = leads;
              tells = tells now.1 (Some (length packets)) refl (get_last packets p);
              stands = record {
                reached = one_more g room w h.reached e now leads;
                journals_of = h.journals_of;
                sent = more_sent s.sent packets p h.sent;
                fewer = let sent = length-push packets p in let fewer = h.fewer in omega (arith, more, sent, fewer);
              };
            }

    module _ (n : Node) (found : slice_get s.nodes i ≡ Some n) where
      -- where the node stays, so do all
      pub same_nodes : (sent : List Packet) → record s { nodes = slice_set s.nodes i n; sent = sent } ≡ record s { sent = sent }
      same_nodes sent = ap (λ ns. record s { nodes = ns; sent = sent }) (set_found s.nodes i n found)

      -- and the world stays too
      pub stays : (words : Words) (e : Event) (r : Reply) → IsEventOf w a e → Tells w a r (saying words) → step w e ≡ (r, w)
          → Comes g room s journals packets a (with_node_done i (unmoved (saying words) n) s)
      stays words e r is tells steps few = inl (subst (ByEvent g room s journals packets a (saying words)) (sym (same_nodes s.sent)) (record {
        event = e;
        is = is;
        reply = r;
        journals_then = journals;
        packets_then = packets;
        steps = steps;
        tells = tells;
        stands = record { reached = one_more g room w h.reached e (r, w) steps; journals_of = h.journals_of; sent = h.sent; fewer = h.fewer };
      }))
