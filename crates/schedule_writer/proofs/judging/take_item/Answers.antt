use Rattle.std.proofs.Common.{map, refl, sym, ap, ◌∙◌}
use Rattle.schedule_writer.specs.Inner.Plans.{item_of, offered_of, taken_of}
use Rattle.schedule_writer.proofs.ItemLaws.{offered_there}
use Rattle.schedule_writer.proofs.JudgedLaws.{judged_put}
use Rattle.schedule_writer.proofs.judging.take_item.Goals as goal

pub judge-requires-clause-there : goal.judge-requires-clause-there
judge-requires-clause-there c =
    offered_there c.args.input.now c.args.from (offered_of c.in-Offers.offered) (sym (ap item_of c.in-Offers.is) ∙ c.item_at-length.ensures.item) c.requires.from

pub returns-in-Ok-judge-clause-judged : goal.returns-in-Ok-judge-clause-judged
returns-in-Ok-judge-clause-judged c = λ issuer so.
    let old = c.args.items.now in
    let asked = c.in-Ok-judge.ensures in
    judged_put c.args.sheet.now issuer (map taken_of old.batches.items) _ (offered_of c.in-Offers.offered) c.args.world.now
    c.judge.new.world old.asked c.in-Ok-judge.asked c.in-Ok-judge.asked so asked.journaled asked.world asked.asked asked.batches refl
