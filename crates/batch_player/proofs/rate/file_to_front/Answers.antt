use Rattle.std.proofs.Common.{rules}
use Rattle.metering_model.specs.Cut.{IsAtLeast}
use Rattle.metering_model.proofs.CutLaws.{at_least_itself}
use Rattle.metering_model.proofs.RulesUpToCut.{MeetsJournalRules-up_to}
use Rattle.batch_player.proofs.FrontLaws.{front_grows, front_length, front_whole}
use Rattle.batch_player.proofs.rate.file_to_front.Goals as goal

-- the front is at least itself too, so that it is for the clause to say from which cut the file is
pub file_between-requires : goal.file_between-requires
file_between-requires c = record {
  charged = record {
    agents = rw (c.in_ok-to.ensures, c.in_ok-from.ensures, c.requires.agents) (front_length c.base_month.result c.args.period c.args.store.now.batches 64);
    grows =
        let grown : IsAtLeast c.in_ok-to.to c.in_ok-from.from = rw (c.in_ok-to.ensures, c.in_ok-from.ensures) (front_grows c.base_month.result c.args.period c.args.store.now.batches 64) in
        search (rules, at_least_itself, grown);
    whole = rw (c.in_ok-to.ensures, c.in_ok-from.ensures) (front_whole c.base_month.result c.args.period c.args.store.now.batches 64);
    met = MeetsJournalRules-up_to c.args.sheet.now c.in_ok-to.to c.args.store.now.batches c.requires.met;
  };
}

pub returns : goal.returns
returns c = rw (c.in_ok-to.ensures, c.in_ok-from.ensures, c.base_month.ensures.value) at c.file_between.ensures.file
