use Rattle.metering_model.proofs.RulesUpToCut.{MeetsJournalRules-up_to}
use Rattle.metering_model.proofs.Journals.{MeetsJournalRules-nil, MeetsJournalRules-put, held_before_next}
use Rattle.metering_model.proofs.NextLaws.{held_below_next}
use Rattle.metering_model.proofs.laws.journals_keep_their_rules.Goals as goal

pub returns-clause-none : goal.returns-clause-none
returns-clause-none c = MeetsJournalRules-nil

pub returns-clause-taken : goal.returns-clause-taken
returns-clause-taken c = MeetsJournalRules-put

pub returns-clause-below_next : goal.returns-clause-below_next
returns-clause-below_next c = held_before_next

pub returns-clause-cuts : goal.returns-clause-cuts
returns-clause-cuts c = λ sheet h cut. MeetsJournalRules-up_to sheet cut h

pub returns-clause-all_below_next : goal.returns-clause-all_below_next
returns-clause-all_below_next c = held_below_next
