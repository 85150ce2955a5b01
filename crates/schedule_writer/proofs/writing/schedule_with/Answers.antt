use Rattle.std.proofs.Common.{◌+◌, length, max, refl, sym, ap, ap₂, ◌∙◌}
use Rattle.std.specs.Arc.{arc_value}
use Rattle.schedule_writer.specs.Inputs.{least_last}
use Rattle.schedule_writer.specs.declared.plans.Plan.{Plan}
use Rattle.schedule_writer.proofs.ScheduleLaws.{scheduled}
use Rattle.schedule_writer.proofs.writing.schedule_with.Goals as goal

pub returns-in-Ok-clause-schedule : goal.returns-in-Ok-clause-schedule
returns-in-Ok-clause-schedule c =
    let found = c.args.found.now in
    let plan : Plan = record {
      voters = c.args.request.nodes;
      observers = c.args.request.observers;
      nodes = c.args.request.nodes + c.args.request.observers;
      last = c.in-Some.last;
      agents = found.asked.agents;
      sheet = c.args.sheet;
      batches = c.deref-2.result;
      closes = c.deref-3.result;
    } in
    let b = c.deref-2.ensures.value in
    let d = c.deref-3.ensures.value in
    let read = rw (sym d) at (rw (sym b) at c.requires.input) in
    let asked = rw (sym b) at c.requires.asked in
    let least = c.least_last-least.ensures
    ∙ ap₂ (least_last c.args.request.through) (c.len.ensures ∙ (found.batches.ok.0 ∙ ap length (sym b))) (c.deref.ensures.value ∙ sym d) in
    scheduled c.args.request c.args.input.now c.in-Ok.text.items plan (arc_value c.args.issuer.now) found.asked.last c.unwrap_or-through.result read
    asked refl refl refl c.unwrap_or-through.ensures (c.in-Some.ensures.0 ∙ ap (max c.unwrap_or-through.result) least) c.in-Ok.ensures
