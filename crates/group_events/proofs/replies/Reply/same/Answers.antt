-- Each pair of variants; of others nothing is the same.
use Rattle.std.proofs.Common.{Decides, false}
use Rattle.std.proofs.lemmas.Bool.{false≢true}
use Rattle.group_events.proofs.SameReplies.{no_journaled, no_delivered, no_started, no_restarted, no_exported, no_kept_text, no_refused, other_sent, same_sent, other_ballot, same_ballot, same_exports}
use Rattle.group_events.proofs.replies.Reply.same.Goals as goal

never : {P : Type 0} → (P → ⊥) → Decides false P
never none = (λ t. absurd (false≢true t), λ p. absurd (none p))

pub returns-else-eq : goal.returns-else-eq
returns-else-eq c = rw (c.in-Delivered-Delivered.is-0, c.in-Delivered-Delivered.is-1) (other_sent _ _ _ _ c.eq.result c.eq.ensures c.if-eq.false)

pub returns-then-eq : goal.returns-then-eq
returns-then-eq c = rw (c.in-Delivered-Delivered.is-0, c.in-Delivered-Delivered.is-1) (same_sent _ _ _ _ c.eq.result c.eq-then-eq.result c.eq.ensures c.if-eq.true c.eq-then-eq.ensures)

pub returns-else-eq-2 : goal.returns-else-eq-2
returns-else-eq-2 c = rw (c.in-Started-Started.is-0, c.in-Started-Started.is-1) (other_ballot _ _ _ _ c.eq-in-Started-Started.result c.eq-in-Started-Started.ensures c.if-eq-2.false)

pub returns-then-eq-2 : goal.returns-then-eq-2
returns-then-eq-2 c = rw (c.in-Started-Started.is-0, c.in-Started-Started.is-1) (same_ballot _ _ _ _ c.eq-in-Started-Started.result c.eq-in-Started-Started.ensures c.if-eq-2.true)

pub returns-in-Exported-Exported : goal.returns-in-Exported-Exported
returns-in-Exported-Exported c = rw (c.in-Exported-Exported.is-0, c.in-Exported-Exported.is-1) (same_exports _ _ c.same.result c.same.ensures)

pub returns-in_default : goal.returns-in_default
returns-in_default c = rw c.in_default.is-0 (never (no_journaled _ c.args.other.now c.in_default.not-Journaled-1))

pub returns-in_default-2 : goal.returns-in_default-2
returns-in_default-2 c = rw c.in_default.is-0 (never (no_delivered _ _ c.args.other.now c.in_default.not-Delivered-1))

pub returns-in_default-3 : goal.returns-in_default-3
returns-in_default-3 c = rw c.in_default.is-0 (never (no_started _ _ c.args.other.now c.in_default.not-Started-1))

pub returns-in_default-4 : goal.returns-in_default-4
returns-in_default-4 c = rw c.in_default.is-0 (never (no_restarted c.args.other.now c.in_default.not-Restarted-1))

pub returns-in_default-5 : goal.returns-in_default-5
returns-in_default-5 c = rw c.in_default.is-0 (never (no_exported _ c.args.other.now c.in_default.not-Exported-1))

pub returns-in_default-6 : goal.returns-in_default-6
returns-in_default-6 c = rw c.in_default.is-0 (never (no_kept_text _ c.args.other.now c.in_default.not-KeptText-1))

pub returns-in_default-7 : goal.returns-in_default-7
returns-in_default-7 c = rw c.in_default.is-0 (never (no_refused _ c.args.other.now c.in_default.not-Refused-1))
