use Rattle.std.proofs.Common.{◌≡◌, ◌++◌, ◌∷◌, [], arith}
use Rattle.std.proofs.lemmas.List.Elements.{All-push, All-same}
use Rattle.focus_row.specs.declared.due_batches.BatchPlace.{BatchPlace}
use Rattle.focus_row.specs.Inner.Left.{IsWithin}
use Rattle.focus_row.proofs.BatchLaws.{one_more_batch}
use Rattle.focus_row.proofs.between.BetweenCuts.places.Goals as goal

pub loop-next_agent-preserved : goal.loop-next_agent-preserved
loop-next_agent-preserved c =
    let s = c.args.self.now in
    let so = c.loop-next_agent.invariant in
    let of = c.in-Some.ensures in
    let place : BatchPlace = record { agent = c.in-Some.next_agent; seq = c.in-Some.next_seq } in
    let pushed : c.push.new.self.items ≡ c.loop-next_agent.places.items ++ place ∷ [] = c.in_ok-push.ensures.items in
    record {
      agent_from = omega (arith, so.agent_from, of.next.from_agent);
      agent_to = of.limits.0;
      seq_from = omega arith;
      seq_to = omega (arith, of.limits.1);
      within = All-same (IsWithin s) _ _ pushed (All-push (IsWithin s) c.loop-next_agent.places.items place so.within of.next.within);
      all = one_more_batch s c.loop-next_agent.places.items _ place _ _ pushed of.next.left so.all;
    }
