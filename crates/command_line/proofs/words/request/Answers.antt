use Rattle.std.proofs.Common.{◌≤◌, ℕ, List, Option, Some, None, IfSome, arith, refl}
use Rattle.clap.specs.Words.{Row, found_of, rows_of}
use Rattle.metering_model.specs.Limits.{last_period}
use Rattle.command_line.specs.CommandLine.{GivesThrough}
use Rattle.command_line.proofs.words.request.Goals as goal

last_within : (rows : List Row) (through : Option ℕ) → GivesThrough rows through → IfSome through (λ p. p ≤ last_period)
last_within rows None gives = tt
last_within rows (Some period) gives = omega (arith, gives.within)

pub returns-clause-given : goal.returns-clause-given
returns-clause-given c =
    let nodes = c.in_ok-nodes.ensures.given in
    let observers = c.in_ok-observers.ensures.given in
    let through = c.in_ok-through.ensures.given in
    record {
      nodes = nodes.2;
      observers = observers.2;
      through = through;
      within = record { voters = nodes.0; nodes = omega arith; through = last_within (rows_of (found_of c.args.matches.now)) c.in_ok-through.through through };
    }

pub returns-in_err-nodes-clause-not_given : goal.returns-in_err-nodes-clause-not_given
returns-in_err-nodes-clause-not_given c is request gives =
    c.in_err-nodes.ensures.not_given refl request.nodes gives.within.voters (omega (arith, gives.within.nodes)) gives.nodes

pub returns-in_err-observers-clause-not_given : goal.returns-in_err-observers-clause-not_given
returns-in_err-observers-clause-not_given c is request gives =
    c.in_err-observers.ensures.not_given refl request.observers (omega arith) (omega (arith, gives.within.voters, gives.within.nodes)) gives.observers

pub returns-in_err-through-clause-not_given : goal.returns-in_err-through-clause-not_given
returns-in_err-through-clause-not_given c is request gives = c.in_err-through.ensures.not_given refl request.through gives.through
