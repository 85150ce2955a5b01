use Rattle.std.proofs.Common.{Ok, drop, sym, ap₂, subst, ◌∙◌}
use Rattle.schedule_writer.specs.Inner.Judged.{IsFaultOf}
use Rattle.schedule_writer.proofs.writing.schedule_of.Goals as goal

pub schedule_by-requires-clause-given : goal.schedule_by-requires-clause-given
schedule_by-requires-clause-given c = record {
  is_read = c.requires.given.is_read
      ∙ sym (ap₂ (λ s i. Ok (record { sheet = s; issuer = i; batch = drop c.args.given.batch_from c.args.input.now })) c.in-Ok.ensures.shared c.in-Ok-shared.ensures.shared);
  within = c.requires.given.within;
}

pub returns-in-Err : goal.returns-in-Err
returns-in-Err c = record { schedule = tt; fault = subst (IsFaultOf c.args.input.now) (sym c.in-Err.ensures.fault) tt }

pub returns : goal.returns
returns c = record { schedule = tt; fault = subst (IsFaultOf c.args.input.now) (sym c.in-Err-shared.ensures.fault) tt }

pub returns-in-Ok-shared : goal.returns-in-Ok-shared
returns-in-Ok-shared c = record { schedule = c.schedule_by.ensures.schedule; fault = c.schedule_by.ensures.fault }
