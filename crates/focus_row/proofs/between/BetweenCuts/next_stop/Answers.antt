use Rattle.std.proofs.Common.{◌≡◌, ◌≤◌, length, sym, ap, subst, ◌∙◌, arith}
use Rattle.focus_row.specs.Inner.Left.{Between, MayBeCharged}
use Rattle.focus_row.proofs.BatchLaws.{batch_first}
use Rattle.focus_row.proofs.StopLaws.{rows_end}
use Rattle.focus_row.proofs.between.BetweenCuts.next_stop.Goals as goal

pub returns-in-Some-clause-next : goal.returns-in-Some-clause-next
returns-in-Some-clause-next c =
    let s = c.args.self.now in
    let may : MayBeCharged s = subst MayBeCharged c.self.view_is c.self.invariant.0 in
    let from : 1 ≤ c.in-Some.next = omega (arith, c.in-Some.ensures.within.0, c.loop-own.invariant.from_first) in
    let agents : c.agents-agents.result ≡ s.agents = c.agents-agents.ensures.value ∙ ap (λ (b : Between). b.agents) c.self.view_is in
    record {
      within = record { from = omega arith; to = omega arith; first = from; last = c.in-Some.ensures.within.1 };
      from_agent = omega arith;
      from_seq = λ own. omega (arith, c.loop-own.invariant.at_agent own, c.in-Some.ensures.within.0);
      left = batch_first s may c.loop-own.own c.in-Some.next from c.in-Some.ensures.within.1 ∙ c.in-Some.ensures.some ∙ c.loop-own.invariant.left;
    }

pub returns-clause-none : goal.returns-clause-none
returns-clause-none c =
    let s = c.args.self.now in
    let may : MayBeCharged s = subst MayBeCharged c.self.view_is c.self.invariant.0 in
    let agents : c.agents-agents.result ≡ s.agents = c.agents-agents.ensures.value ∙ ap (λ (b : Between). b.agents) c.self.view_is in
    let long : length s.to ≡ s.agents = may.same_agents in
    sym c.loop-own.invariant.left ∙ rows_end s may.stored.is_holding c.loop-own.own c.loop-own.start (omega arith)
