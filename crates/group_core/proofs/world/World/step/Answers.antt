use Rattle.std.proofs.Common.{◌≡◌, Some, IfOk, subst}
use Rattle.std.specs.Prelude.{slice_get}
use Rattle.metering_model.specs.World.{World, KeptGood, Refused}
use Rattle.metering_model.specs.KeptText.{kept_text}
use Rattle.metering_model.specs.Step.{kept_now}
use Rattle.group_laws.specs.Revivals.{refusal_of_other}
use Rattle.group_state.specs.Words.{event_of, reply_of}
use Rattle.group_core.specs.Headline.{IsUnchangedAt, IsLater}
use Rattle.group_core.proofs.Calls.{reached_after_call, exports_of_call, later_after_call}
use Rattle.group_core.proofs.Unchanged.{if_other, unchanged}
use Rattle.group_core.proofs.world.World.step.Goals as goal

pub invariant_of-self : goal.invariant_of-self
invariant_of-self c = reached_after_call reply_of c.step.result c.self.inside.state c.step.new.self (event_of c.args.event.now) c.self.invariant c.step.ensures.ok c.step.ensures.kept

pub returns-clause-unchanged : goal.returns-clause-unchanged
returns-clause-unchanged c =
    subst (λ (w : World). IfOk c.step.result (λ r. IsUnchangedAt (reply_of r) w c.step.new.self)) c.self.view_is
    (unchanged reply_of c.self.inside.state c.step.new.self (event_of c.args.event.now) c.step.result c.step.ensures.ok)

pub returns-clause-others : goal.returns-clause-others
returns-clause-others c = λ node n offer is found other.
    subst (λ (w : World). slice_get w.nodes node ≡ Some n → (offer ≡ KeptGood (kept_text (kept_now w n)) → ⊥) → IfOk c.step.result (λ r. (reply_of r ≡ Refused (refusal_of_other offer)) × (c.step.new.self ≡ w))) c.self.view_is
    (λ found other. if_other reply_of c.self.inside.state c.step.new.self (event_of c.args.event.now) node n offer is found other c.step.result c.step.ensures.ok) found other

pub returns-clause-exports : goal.returns-clause-exports
returns-clause-exports c = exports_of_call reply_of c.step.result c.self.inside.state c.step.new.self (event_of c.args.event.now) c.self.invariant c.step.ensures.ok c.step.ensures.kept

pub returns-clause-later : goal.returns-clause-later
returns-clause-later c =
    subst (λ (w : World). IsLater w c.step.new.self) c.self.view_is
    (later_after_call reply_of c.step.result c.self.inside.state c.step.new.self (event_of c.args.event.now) c.self.invariant c.step.ensures.ok c.step.ensures.kept)
