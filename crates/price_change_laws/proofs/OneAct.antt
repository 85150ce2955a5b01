-- What an act makes of all processes under an older sheet, and what it makes of processes that are alike under the last one.
use Rattle.std.proofs.Common.{◌≡◌, ℕ, zero, suc, ◌<◌, Bool, true, false, List, [], ◌∷◌, length, refl, sym, ap, subst, ◌∙◌, Option, Some, None, eqb-true}
use Rattle.std.specs.Prelude.{◌==◌, if◌then◌else◌, slice_get, slice_set}
use Rattle.std.specs.List.{Contains}
use Rattle.std.proofs.lemmas.Bool.{true≢false}
use Rattle.std.proofs.lemmas.Option.{same_Some}
use Rattle.metering_model.specs.Sheet.{Sheet}
use Rattle.metering_model.specs.declared.Refusal.TheVariants.{NoNode}
use Rattle.metering_model.specs.World.{Node, Packet}
use Rattle.process_laws.specs.LocalSteps.{Group, NodeCommand, TakePacket, BeginBallot, ExportPeriod, TellKept, SendBatch, OfModel, refusing, NodeDone, node_does, node_goes_on, AgentDone, agent_does, agent_goes_on}
use Rattle.process_laws.specs.Histories.{Processes, Act, Acted, NodeDoes, NodeGoesOn, AgentDoes, AgentGoesOn, sent_with, with_node_done, with_agent_done, by_node, acted, WasSent, MayAct}
use Rattle.price_change_laws.specs.SheetedHistories.{group_under, lacks_price, answer_under, AreAlike, IsTakenOver}
use Rattle.price_change_laws.proofs.OtherSheet.{shows_unbroken, NodeGoesAlike, AgentGoesAlike, node_goes_alike, agent_goes_alike}

-- Where an act was refused for want of a price, the others are alike as they are. Else the act is answered the same, and leaves them alike.
pub record GoesAlike (last : Sheet) (t : Processes) (d e : Acted) : Type 0 where
  pub still : lacks_price d.answer ≡ true → AreAlike d.after t
  pub same : lacks_price d.answer ≡ false → (e.answer ≡ answer_under last d.answer) × AreAlike d.after e.after
  pub fit : shows_unbroken d.answer.words ≡ true

never : {A : Type 0} → false ≡ true → A
never t = absurd (true≢false (sym t))

set_found : {A : Type 0} (xs : List A) (i : ℕ) (x : A) → slice_get xs i ≡ Some x → slice_set xs i x ≡ xs
set_found [] i x e = refl
set_found (y ∷ xs) zero x e = ap (λ z. z ∷ xs) (sym (same_Some y x e))
set_found (y ∷ xs) (suc i) x e = ap (λ ys. y ∷ ys) (set_found xs i x e)

module _ (last : Sheet) (s t : Processes) (h : AreAlike s t) where
  -- ---- a node

  module _ (i : ℕ) (does did : Node → NodeDone) (each : (n : Node) → NodeGoesAlike last n (does n) (did n)) where
    abbrev found_by : Processes → (Node → NodeDone) → Option Node → Acted
    found_by r f o = elim o [
      | Some n ↦ with_node_done i (f n) r
      | None ↦ record { answer = refusing (OfModel NoNode); after = r }
    ]

    by_found : (o : Option Node) → slice_get s.nodes i ≡ o → GoesAlike last t (found_by s does o) (found_by t did o)
    by_found None is = record { still = λ no. never no; same = λ f. (refl, h); fit = refl }
    by_found (Some n) is = record {
      still = λ lacks.
          let stays = (each n).still lacks in
          record {
            nodes = h.nodes ∙ sym (ap (slice_set s.nodes i) stays.1 ∙ set_found s.nodes i n is);
            journals = h.journals;
            sent = h.sent ∙ sym (ap (λ p. sent_with p s.sent) stays.0);
          };
      same = λ has.
          let goes = (each n).same has in (
            goes.0,
            record {
              nodes = ap (λ ns. slice_set ns i (did n).node) h.nodes ∙ ap (slice_set s.nodes i) goes.1;
              journals = h.journals;
              sent = ap (λ ps. sent_with (did n).answer.sends ps) h.sent ∙ ap (λ p. sent_with p s.sent) (ap (λ x. x.sends) goes.0);
            },
          );
      fit = (each n).fit;
    }

    nodes_go_alike : GoesAlike last t (by_node i s does) (by_node i t did)
    nodes_go_alike =
        subst (λ o. GoesAlike last t (by_node i s does) (found_by t did o)) (sym (ap (λ ns. slice_get ns i) h.nodes)) (by_found (slice_get s.nodes i) refl)

  -- ---- an agent

  module _ (a : ℕ) (d e : AgentDone) (each : AgentGoesAlike last (s.journals a) d e) where
    as_it_was : d.journal ≡ s.journals a → (agent : ℕ) → t.journals agent ≡ (if agent == a then d.journal else s.journals agent)
    as_it_was stays agent = by_test (agent == a) refl
      where
        by_test : (b : Bool) → (agent == a) ≡ b → t.journals agent ≡ (if b then d.journal else s.journals agent)
        by_test true is = h.journals agent ∙ (ap s.journals (eqb-true agent a is) ∙ sym stays)
        by_test false is = h.journals agent

    alike_then : e.journal ≡ d.journal → (agent : ℕ) → (if agent == a then e.journal else t.journals agent) ≡ (if agent == a then d.journal else s.journals agent)
    alike_then goes agent = by_test (agent == a)
      where
        by_test : (b : Bool) → (if b then e.journal else t.journals agent) ≡ (if b then d.journal else s.journals agent)
        by_test true = goes
        by_test false = h.journals agent

    agents_go_alike : GoesAlike last t (with_agent_done a d s) (with_agent_done a e t)
    agents_go_alike = record {
      still = λ lacks.
          let stays = each.still lacks in
          record { nodes = h.nodes; journals = as_it_was stays.1; sent = h.sent ∙ sym (ap (λ p. sent_with p s.sent) stays.0) };
      same = λ has.
          let goes = each.same has in (
            goes.0,
            record {
              nodes = h.nodes;
              journals = alike_then goes.1;
              sent = ap (λ ps. sent_with e.answer.sends ps) h.sent ∙ ap (λ p. sent_with p s.sent) (ap (λ x. x.sends) goes.0);
            },
          );
      fit = each.fit;
    }

-- ---- any act

module _ (g : Group) (old : Sheet) (taken : IsTakenOver g.sheet old) (s t : Processes) (h : AreAlike s t) where
  pub goes_alike : (a : Act) → GoesAlike g.sheet t (acted (group_under old g) s a) (acted g t a)
  goes_alike (NodeDoes i c) =
      nodes_go_alike g.sheet s t h i (λ n. node_does (group_under old g) i n c) (λ n. node_does g i n c) (λ n. node_goes_alike g old taken i n c)
  goes_alike (NodeGoesOn i stored) =
      nodes_go_alike g.sheet s t h i (λ n. node_goes_on stored) (λ n. node_goes_on stored) (λ n. record { still = λ no. never no; same = λ f. (refl, refl); fit = refl })
  goes_alike (AgentDoes a c) =
      subst (λ k. GoesAlike g.sheet t (acted (group_under old g) s (AgentDoes a c)) (with_agent_done a (agent_does g a k c) t)) (sym (h.journals a))
      (agents_go_alike g.sheet s t h a (agent_does (group_under old g) a (s.journals a) c) (agent_does g a (s.journals a) c)
      (agent_goes_alike g old taken a (s.journals a) c))
  goes_alike (AgentGoesOn a stored) =
      agents_go_alike g.sheet s t h a (agent_goes_on a stored) (agent_goes_on a stored) (record { still = λ no. never no; same = λ f. (refl, refl); fit = refl })

  sent_too : (c : NodeCommand) → WasSent (group_under old g) s c → WasSent g t c
  sent_too (TakePacket name p) was = λ is. subst (λ (ps : List Packet). Contains ps p) (sym h.sent) (was is)
  sent_too BeginBallot was = was
  sent_too (ExportPeriod period) was = was
  sent_too TellKept was = was
  sent_too (SendBatch agent seq) was = was

  -- what may be done under the older sheet may be done under the last
  pub may_act : (a : Act) → MayAct (group_under old g) s a → MayAct g t a
  may_act (NodeDoes i c) may = (subst (λ (ns : List Node). i < length ns) (sym h.nodes) may.0, sent_too c may.1)
  may_act (NodeGoesOn i stored) may = (may.0, ap (λ ns. slice_get ns i) h.nodes ∙ may.1, may.2)
  may_act (AgentDoes a c) may = may
  may_act (AgentGoesOn a stored) may = (may.0, may.1, h.journals a ∙ may.2)
