use Rattle.threads_player.proofs.texts.run_of.Goals as goal

pub returns-in-Ok-clause-run : goal.returns-in-Ok-clause-run
returns-in-Ok-clause-run g c =
    let plan = c.in-Ok.ensures.plan in
    let planned = c.in_ok-plan.ensures.planned in
    record {
      voters = rw plan planned.voters;
      observers = rw plan planned.observers;
      sheet = rw plan planned.sheet;
      issuer = rw plan planned.issuer;
      journals = rw plan planned.journals;
      periods = rw plan planned.periods;
      agree = rw plan c.in-Ok.ensures.agree;
      files = c.in-Ok.ensures.files;
      whole = c.in-Ok.ensures.whole;
      history = c.in-Ok.ensures.history;
      headline = c.in-Ok.ensures.headline;
    }
