-- What a counted vote does to a node.
use Rattle.std.proofs.Common.{◌≡◌, ℕ, None, refl, sym, subst, ◌∙◌, arith}
use Rattle.std.proofs.lemmas.Bool.{ne_eqb}
use Rattle.std.proofs.lemmas.Grind.{common_steps}
use Rattle.std.proofs.lemmas.Result.{IfOk-from_err}
use Rattle.metering_model.specs.Cut.{Cut}
use Rattle.metering_model.specs.World.{Accepted, World, current_period}
use Rattle.node_kept.specs.Kept.{IsKept}
use Rattle.group_node.specs.Handling.{Does}
use Rattle.group_node.specs.Nodes.{NodeAmong}
use Rattle.group_node.proofs.nodes.Node.on_accepted.Goals as goal

-- of another period nothing is counted
elsewhere : (from period ballot : ℕ) (cut : Cut) (n : NodeAmong) → (period ≡ current_period n.node → ⊥) → (base i : ℕ) → Does base i (Accepted from period ballot cut) n n None None
elsewhere from period ballot cut n other base i = record {
  handles = λ (w : World) a b d. rw (ne_eqb period (current_period n.node) other) refl;
  voters = refl;
  agents = refl;
}

pub returns-then-number-current_period-clause-does : goal.returns-then-number-current_period-clause-does
returns-then-number-current_period-clause-does c =
    elsewhere c.args.from c.args.period c.args.ballot _ c.args.self.now (λ e. c.if-number-current_period.true (c.number.ensures.value ∙ (e ∙ sym c.current_period.ensures.value)))

pub invariant_of-self : goal.invariant_of-self
invariant_of-self c =
    let kept = subst IsKept (sym c.kept.view_is) c.self.invariant.1.kept in (
      c.self.invariant.0,
      record { few = c.self.invariant.1.few; kept = rw c.try_reserve.ensures.items kept; attempt = c.self.invariant.1.attempt },
    )

pub invariant_of-self-in_err-cut : goal.invariant_of-self-in_err-cut
invariant_of-self-in_err-cut c =
    let kept = subst IsKept (sym c.kept.view_is) c.self.invariant.1.kept in (
      c.on_accepted.ensures.nodes ∙ c.self.invariant.0,
      record { few = c.self.invariant.1.few; kept = rw c.try_reserve.ensures.items kept; attempt = c.self.invariant.1.attempt },
    )

pub invariant_of-self-in_default : goal.invariant_of-self-in_default
invariant_of-self-in_default c =
    let kept = subst IsKept (sym c.kept.view_is) c.self.invariant.1.kept in (
      c.on_accepted.ensures.nodes ∙ c.self.invariant.0,
      record { few = c.self.invariant.1.few; kept = rw c.try_reserve.ensures.items kept; attempt = c.self.invariant.1.attempt },
    )

pub returns-in_err-try_clone-clause-does : goal.returns-in_err-try_clone-clause-does
returns-in_err-try_clone-clause-does c = IfOk-from_err _ _ c.from_residual.ensures.0

pub returns-in_err-cut-clause-does : goal.returns-in_err-cut-clause-does
returns-in_err-cut-clause-does c = IfOk-from_err _ _ c.from_residual-in_err-cut.ensures.0

pub returns-clause-does : goal.returns-clause-does
returns-clause-does c = grind (arith, common_steps) steps 2000000
