use Rattle.std.proofs.Common.{drop, refl, ap, ◌∙◌}
use Rattle.std.specs.Arc.{arc_value}
use Rattle.std.proofs.lemmas.Result.{IfErr-weaker}
use Rattle.schedule_writer.specs.Inputs.{batches_of, closes_from}
use Rattle.schedule_writer.proofs.ScheduleLaws.{is_taken, items_behind, refused_fault, uncertain}
use Rattle.schedule_writer.proofs.writing.schedule_by.Goals as goal

pub schedule_with-requires-clause-input : goal.schedule_with-requires-clause-input
schedule_with-requires-clause-input c =
    let input = c.args.input.now in
    let from = c.args.batch_from in
    let sheet = arc_value c.args.sheet.now in
    let issuer = arc_value c.args.issuer.now in
    let same = items_behind input from sheet issuer c.requires.given.within in
    record {
      given = record { sheet = sheet; issuer = issuer; batch = drop from input };
      is_given = c.requires.given.is_read;
      by_sheet = refl;
      by_issuer = refl;
      batches = c.in-Ok.ensures.found.batches ∙ ap batches_of same;
      are_closes = c.in-Ok.ensures.found.closes ∙ ap (closes_from 0) same;
    }

pub returns-in-Err : goal.returns-in-Err
returns-in-Err c =
    let input = c.args.input.now in
    let from = c.args.batch_from in
    let sheet = arc_value c.args.sheet.now in
    let issuer = arc_value c.args.issuer.now in
    let same = items_behind input from sheet issuer c.requires.given.within in
    record {
      schedule = tt;
      fault = refused_fault input (record { sheet = sheet; issuer = issuer; batch = drop from input }) _ _ _ _ c.requires.given.is_read refl refl (ap batches_of same)
          c.in-Err.ensures.refused;
    }

pub returns-in-Ok : goal.returns-in-Ok
returns-in-Ok c =
    let input = c.args.input.now in
    let from = c.args.batch_from in
    let sheet = arc_value c.args.sheet.now in
    let issuer = arc_value c.args.issuer.now in
    let same = items_behind input from sheet issuer c.requires.given.within in
    let taken = is_taken input (record { sheet = sheet; issuer = issuer; batch = drop from input }) _ _ _ c.requires.given.is_read refl refl
    (c.in-Ok.ensures.found.batches ∙ ap batches_of same) c.in-Ok.ensures.taken in
    record {
      schedule = c.schedule_with.ensures.schedule;
      fault = IfErr-weaker c.schedule_with.result _ _ (uncertain input taken) c.schedule_with.ensures.fault;
    }
