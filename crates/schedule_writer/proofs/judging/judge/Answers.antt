use Rattle.std.proofs.Common.{◌≡◌, ◌++◌, [], ap, subst, ◌∙◌}
use Rattle.schedule_writer.specs.Checks.{told_of_answer}
use Rattle.schedule_writer.specs.Refusals.{answer_to}
use Rattle.schedule_writer.specs.Inner.Plans.{offered_of}
use Rattle.schedule_writer.specs.Inner.Walks.{IsThere}
use Rattle.schedule_writer.proofs.AnswerLaws.{journaled_is_batch, refused_now}
use Rattle.schedule_writer.proofs.CountedLaws.{journal_there}
use Rattle.schedule_writer.proofs.judging.judge.Goals as goal

pub read_offer-requires : goal.read_offer-requires
read_offer-requires c = subst (λ t. IsThere t (offered_of c.args.offered.now)) c.requires.text c.requires.there

pub journal_offered-journaled-requires : goal.journal_offered-journaled-requires
journal_offered-journaled-requires c = record {
  place = record { within = c.requires.there.begins; above = tt };
  event = journal_there (offered_of c.args.offered.now).text c.in-Ok.offer c.in-Ok.ensures;
}

pub returns-in-Ok-true : goal.returns-in-Ok-true
returns-in-Ok-true c =
    let text = c.args.offered.now.text.now in
    let journaled = c.in-Ok-true.ensures.journaled c.in-Ok-true.field-0-test in
    let read = journaled_is_batch c.args.world.now text journaled in
    record {
      journaled = journaled;
      world = c.in-Ok-true.ensures.world;
      batches = c.in-Ok-keep_taken.ensures text read.0 c.in-Ok.ensures read.1;
      asked = c.asked_too-more.ensures.asked text read.0 c.in-Ok.ensures read.1;
      refused = tt;
    }

pub returns-in-Ok-false : goal.returns-in-Ok-false
returns-in-Ok-false c =
    let input = c.args.input.now in
    let w = c.args.world.now in
    let b = offered_of c.args.offered.now in
    let told : c.journal_offered-journaled.new.told.items ≡ [] ++ told_of_answer input w b (answer_to w b.text)
    = c.in-Ok-false.ensures.told ∙ ap (λ t. t ++ told_of_answer input w b (answer_to w b.text)) c.new-told.ensures.items in
    record {
      journaled = tt;
      world = tt;
      batches = tt;
      asked = tt;
      refused = refused_now input c.journal_offered-journaled.new.told.items w b c.refused.result (c.in-Ok-false.ensures.refused c.in-Ok-false.field-0-test) told
          c.refused.ensures;
    }
