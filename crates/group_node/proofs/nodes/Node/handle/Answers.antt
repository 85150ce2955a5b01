-- Each packet has its handler.
use Rattle.std.proofs.Common.{◌≡◌, ℕ, Option, None, Result, Ok, Err}
use Rattle.std.specs.Prelude.{IfOk, OnErr, MatchResult, option_map}
use Rattle.std.proofs.lemmas.Result.{IfOk-weaker}
use Rattle.metering_model.specs.World.{Packet as ModelPacket}
use Rattle.group_node.specs.declared.packets.Handled.{Handled}
use Rattle.group_node.specs.declared.packets.Packet.{Packet}
use Rattle.group_node.specs.Handling.{Does}
use Rattle.group_node.specs.Nodes.{NodeAmong}
use Rattle.group_node.specs.Packets.{packet_of}
use Rattle.group_node.proofs.nodes.Node.handle.Goals as goal

-- what its handler says of a packet, said of what was handled
module _ {E : Type 0} (result : Result Handled E) (base i : ℕ) (q : ModelPacket) (old new : NodeAmong) where
  if_sends : (r : Result (Option Packet) E) → MatchResult r (λ s. result ≡ Ok (record { sends = s; learns = None })) (λ e. result ≡ Err e)
      → IfOk r (λ s. Does base i q old new (option_map packet_of s) None) → IfOk result (λ h. Does base i q old new (option_map packet_of h.sends) h.learns)
  if_sends (Ok s) is h = rw is h
  if_sends (Err e) is h = rw is tt

  if_learns : (r : Result (Option ℕ) E) → MatchResult r (λ l. result ≡ Ok (record { sends = None; learns = l })) (λ e. result ≡ Err e)
      → IfOk r (λ l. Does base i q old new None l) → IfOk result (λ h. Does base i q old new (option_map packet_of h.sends) h.learns)
  if_learns (Ok l) is h = rw is h
  if_learns (Err e) is h = rw is tt

left : {A E : Type 0} (P : Type 0) (f : A → Handled) (r : Result A E) (result : Result Handled E) → MatchResult r (λ x. result ≡ Ok (f x)) (λ e. result ≡ Err e) → OnErr r P → OnErr result P
left P f (Ok x) result is h = rw is tt
left P f (Err e) result is h = rw is h

pub returns-in_ok-on_batch-in-Batch-clause-does : goal.returns-in_ok-on_batch-in-Batch-clause-does
returns-in_ok-on_batch-in-Batch-clause-does c = rw (c.in-Batch.is, c.sending.ensures) (c.in_ok-on_batch-in-Batch.ensures.does c.args.base c.args.i)

pub returns-in-Prepare-clause-does : goal.returns-in-Prepare-clause-does
returns-in-Prepare-clause-does c = rw c.in-Prepare.is (if_sends c.if_sent.result c.args.base c.args.i _ _ _ c.on_prepare.result c.if_sent.ensures (IfOk-weaker c.on_prepare.result _ _ (λ s h. h c.args.base) c.on_prepare.ensures.does))

pub returns-in-Promise-clause-does : goal.returns-in-Promise-clause-does
returns-in-Promise-clause-does c = rw c.in-Promise.is (if_sends c.if_sent-in-Promise.result c.args.base c.args.i _ _ _ c.on_promise.result c.if_sent-in-Promise.ensures c.on_promise.ensures.does)

pub returns-in-Accept-clause-does : goal.returns-in-Accept-clause-does
returns-in-Accept-clause-does c =
    rw c.in-Accept.is (if_sends c.if_sent-in-Accept.result c.args.base c.args.i _ _ _ c.on_accept.result c.if_sent-in-Accept.ensures (IfOk-weaker c.on_accept.result _ _ (λ s h. h c.args.base) c.on_accept.ensures.does))

pub returns-in-Accepted-clause-does : goal.returns-in-Accepted-clause-does
returns-in-Accepted-clause-does c =
    rw c.in-Accepted.is (if_learns c.if_learned.result c.args.base c.args.i _ _ _ c.on_accepted.result c.if_learned.ensures (IfOk-weaker c.on_accepted.result _ _ (λ l h. h c.args.base c.args.i) c.on_accepted.ensures.does))

pub returns-in-Decided-clause-does : goal.returns-in-Decided-clause-does
returns-in-Decided-clause-does c =
    rw c.in-Decided.is (if_learns c.if_learned-in-Decided.result c.args.base c.args.i _ _ _ c.on_decided.result c.if_learned-in-Decided.ensures (IfOk-weaker c.on_decided.result _ _ (λ l h. h c.args.base c.args.i) c.on_decided.ensures.does))

pub returns-in-Prepare-clause-kept : goal.returns-in-Prepare-clause-kept
returns-in-Prepare-clause-kept c = left _ (λ s. record { sends = s; learns = None }) c.on_prepare.result c.if_sent.result c.if_sent.ensures c.on_prepare.ensures.kept

pub returns-in-Promise-clause-kept : goal.returns-in-Promise-clause-kept
returns-in-Promise-clause-kept c = left _ (λ s. record { sends = s; learns = None }) c.on_promise.result c.if_sent-in-Promise.result c.if_sent-in-Promise.ensures c.on_promise.ensures.kept

pub returns-in-Accept-clause-kept : goal.returns-in-Accept-clause-kept
returns-in-Accept-clause-kept c = left _ (λ s. record { sends = s; learns = None }) c.on_accept.result c.if_sent-in-Accept.result c.if_sent-in-Accept.ensures c.on_accept.ensures.kept

pub returns-in-Accepted-clause-kept : goal.returns-in-Accepted-clause-kept
returns-in-Accepted-clause-kept c = left _ (λ l. record { sends = None; learns = l }) c.on_accepted.result c.if_learned.result c.if_learned.ensures c.on_accepted.ensures.kept

pub returns-in-Decided-clause-kept : goal.returns-in-Decided-clause-kept
returns-in-Decided-clause-kept c = left _ (λ l. record { sends = None; learns = l }) c.on_decided.result c.if_learned-in-Decided.result c.if_learned-in-Decided.ensures c.on_decided.ensures.kept
