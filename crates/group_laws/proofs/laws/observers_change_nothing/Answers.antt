use Rattle.group_laws.proofs.Alone.{can_be_done_alone}
use Rattle.group_laws.proofs.WithoutObservers.{observers_change_nothing}
use Rattle.group_laws.proofs.laws.observers_change_nothing.Goals as goal

pub returns : goal.returns
returns c = record { follows = observers_change_nothing; all = can_be_done_alone }
