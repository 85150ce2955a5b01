use Rattle.std.proofs.Common.{◌≡◌, ◌++◌, List, ℕ, sym, ap, subst, ◌∙◌}
use Rattle.metering_model.specs.Batch.{Batch}
use Rattle.fault_lines.specs.Ahead.{AreLatest, ahead_of_all}
use Rattle.fault_lines.proofs.KeysOnLine.{still}
use Rattle.schedule_writer.specs.Inputs.{item_at}
use Rattle.schedule_writer.specs.Inner.Counted.{with_journaled}
use Rattle.schedule_writer.specs.Inner.Plans.{item_of, offered_of}
use Rattle.schedule_writer.proofs.CheckLaws.{told_none, told_one, world_none, world_one}
use Rattle.schedule_writer.proofs.CountedLaws.{ahead_of_none, counted_one, no_item_counted}
use Rattle.schedule_writer.proofs.ItemLaws.{offered_there, place_there}
use Rattle.schedule_writer.proofs.checking.check_item.Goals as goal

pub check_offered-requires : goal.check_offered-requires
check_offered-requires c =
    let there = sym (ap item_of c.in-Offers.is) ∙ c.item_at-length.ensures.item in
    record {
      text = c.requires.text;
      there = offered_there c.args.input.now c.args.from (offered_of c.in-Offers.offered) there c.requires.place.within;
      place = place_there c.args.input.now c.args.from (offered_of c.in-Offers.offered) _ there c.requires.place;
    }

pub returns-in-Closes : goal.returns-in-Closes
returns-in-Closes c =
    let item = item_at c.args.input.now c.args.from in
    let there = sym (ap item_of c.in-Closes.is) ∙ c.item_at-length.ensures.item in
    let none = no_item_counted c.args.input.now c.args.world.now item there in
    record {
      length = c.item_at-length.ensures.length;
      told = told_none c.args.input.now c.args.told.now.items c.args.world.now item there;
      ahead = λ before latest. still c.args.warned.now.items _ (ap (ahead_of_all before) none ∙ ahead_of_none before);
      latest = λ before latest. subst (λ (xs : List (ℕ × Batch)). AreLatest c.args.latest.now (with_journaled xs before)) (sym none) latest;
      world = world_none c.args.world.now item there;
    }

pub returns-in-Ok : goal.returns-in-Ok
returns-in-Ok c =
    let item = item_at c.args.input.now c.args.from in
    let offered = offered_of c.in-Offers.offered in
    let there = sym (ap item_of c.in-Offers.is) ∙ c.item_at-length.ensures.item in
    let same = counted_one c.args.input.now c.args.world.now item offered there in
    record {
      length = c.item_at-length.ensures.length;
      told = told_one c.args.input.now c.args.told.now.items c.check_offered.new.told.items c.args.world.now item offered there c.in-Ok.ensures.told;
      ahead = λ before latest.
          subst (λ (xs : List (ℕ × Batch)). c.check_offered.new.warned.items ≡ c.args.warned.now.items ++ ahead_of_all before xs) same
          (c.in-Ok.ensures.ahead before latest);
      latest = λ before latest.
          subst (λ (xs : List (ℕ × Batch)). AreLatest c.check_offered.new.latest (with_journaled xs before)) same (c.in-Ok.ensures.latest before latest);
      world = world_one c.args.world.now c.check_offered.new.world item offered there c.in-Ok.ensures.world;
    }

pub returns-in-Err : goal.returns-in-Err
returns-in-Err c = record { length = tt; told = tt; ahead = λ before latest. tt; latest = λ before latest. tt; world = tt }
