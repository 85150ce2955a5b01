use Rattle.group_laws.proofs.EveryRun.{forms}
use Rattle.group_laws.proofs.Revivals.{revival_is_restart, own_text_is_taken, other_is_refused, each_has_text}
use Rattle.metering_model.specs.World.{opening_with}
use Rattle.metering_model.specs.Step.{play}
use Rattle.group_laws.proofs.laws.a_revival_is_a_restart.Goals as goal

pub returns-clause-restarts : goal.returns-clause-restarts
returns-clause-restarts c = λ room voters observers agents sheet issuer events node offer is.
    revival_is_restart (play (opening_with room voters observers agents sheet issuer) events).1 (forms room voters observers agents sheet issuer events) node offer is

pub returns-clause-has_text : goal.returns-clause-has_text
returns-clause-has_text c = each_has_text

pub returns-clause-taken : goal.returns-clause-taken
returns-clause-taken c = λ room voters observers agents sheet issuer events few some most node n found.
    own_text_is_taken (play (opening_with room voters observers agents sheet issuer) events).1 (forms room voters observers agents sheet issuer events) node n found
    (each_has_text room voters observers agents sheet issuer events few some most node n found)

pub returns-clause-others : goal.returns-clause-others
returns-clause-others c = λ w node n offer found other. other_is_refused w node offer n found other
