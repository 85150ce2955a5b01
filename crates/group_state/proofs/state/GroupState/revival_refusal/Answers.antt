use Rattle.std.proofs.Common.{◌≡◌, sym, ap, subst, refl, ◌∙◌}
use Rattle.std.proofs.lemmas.Bool.{false≢true}
use Rattle.metering_model.specs.World.{Revive}
use Rattle.metering_model.specs.KeptText.{HasText}
use Rattle.metering_model.specs.Step.{on_revival, step, kept_now}
use Rattle.group_events.specs.Offers.{kept_offer}
use Rattle.group_state.proofs.RevivalLaws.{own_text, stale_text}
use Rattle.group_state.proofs.state.GroupState.revival_refusal.Goals as goal

pub returns-then-keeps : goal.returns-then-keeps
returns-then-keeps c =
    let w = c.args.self.now in
    let n = c.in-Some.kept_by.now.node in
    let k = c.in-Good.kept.value in
    let found = sym c.in-Some.ensures.node in
    let has = subst HasText c.deref.ensures c.keeps.ensures.text in
    let here = ap (λ a. record { agents = a; kept = n.kept }) c.in-Some.ensures.member.stores in
    let same : k ≡ kept_now w n = sym c.deref.ensures ∙ (c.if-keeps.ensures.same.0 refl ∙ here) in
    ap (λ o. step w (Revive c.args.node (kept_offer o))) c.in-Good.is ∙ own_text w c.args.node n k c.requires.reached found has same

pub returns-else-keeps : goal.returns-else-keeps
returns-else-keeps c =
    let w = c.args.self.now in
    let n = c.in-Some.kept_by.now.node in
    let k = c.in-Good.kept.value in
    let found = sym c.in-Some.ensures.node in
    let has = subst HasText c.deref.ensures c.keeps.ensures.text in
    let here : record { agents = c.in-Some.kept_by.now.agents; kept = n.kept } ≡ kept_now w n = ap (λ a. record { agents = a; kept = n.kept }) c.in-Some.ensures.member.stores in
    let other : k ≡ kept_now w n → ⊥ = λ e. false≢true (c.if-keeps.ensures.same.1 (c.deref.ensures ∙ (e ∙ sym here))) in
    ap (λ o. on_revival w c.args.node (kept_offer o)) c.in-Good.is ∙ stale_text w c.args.node n k c.requires.reached found has other
