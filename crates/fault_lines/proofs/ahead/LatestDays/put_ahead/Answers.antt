use Rattle.std.proofs.Common.{◌≡◌, ◌-◌, List, None, slice_index_or, sym, ap, ◌∙◌, subst, ◌≤◌}
use Rattle.std.proofs.lemmas.Option.{get_or_from_slice_get}
use Rattle.std.proofs.lemmas.Result.{on_ok_weaker}
use Rattle.metering_model.specs.Batch.{Batch}
use Rattle.metering_model.specs.Limits.{most_agents}
use Rattle.batch_view.specs.Batches.{batch_of}
use Rattle.fault_lines.specs.Ahead.{AreLatest, ahead_of, days_of, latest}
use Rattle.fault_lines.proofs.LatestKept.{kept}
use Rattle.fault_lines.proofs.ahead.LatestDays.put_ahead.Goals as goal

pub returns : goal.returns
unfolding ahead_of
returns c =
    let b = batch_of c.args.batch.now in
    let low : 1 ≤ b.agent = subst (λ n. 1 ≤ n) c.agent.ensures.value c.agent.ensures.range.0 in
    let high : b.agent ≤ most_agents = subst (λ n. n ≤ most_agents) c.agent.ensures.value c.agent.ensures.range.1 in
    let at : c.from-place.result ≡ b.agent - 1 = c.from-place.ensures ∙ ap (λ n. n - 1) c.agent.ensures.value in
    let there = λ (journaled : List Batch) (are : AreLatest c.args.self.now journaled). subst (λ days. AreLatest days journaled) (sym c.self.view_is) are in
    let here = λ (journaled : List Batch) (are : AreLatest c.args.self.now journaled).
    ap (λ n. slice_index_or c.self.inside.days n None) at ∙ get_or_from_slice_get c.self.inside.days (b.agent - 1) (latest (days_of b.agent journaled)) None (there journaled are b.agent low high) in
    record {
      said = λ journaled are. c.put_batch.ensures.told (days_of b.agent journaled) (here journaled are);
      latest = λ journaled are.
          on_ok_weaker c.put_batch.result
          (λ now. kept b journaled c.self.inside.days c.from-place.result c.put_batch.new.above low high at now (there journaled are))
          (c.put_batch.ensures.latest (days_of b.agent journaled) (here journaled are));
    }
