use Rattle.std.proofs.Common.{OnOk, subst}
use Rattle.process_laws.specs.LocalSteps.{JournalBatch}
use Rattle.process_text.specs.Requests.{AsksAgent}
use Rattle.process_text.specs.Inner.Written.{AppendsAgent}
use Rattle.process_text.proofs.agents.journal.Goals as goal

pub returns-in-Ok : goal.returns-in-Ok
returns-in-Ok c =
    subst (λ o. OnOk c.journal_offer.result (AppendsAgent (AsksAgent (JournalBatch o)) c.args.agent.now c.journal_offer.new.agent c.args.text.now.items c.journal_offer.new.text.items))
    c.in-Ok.ensures c.journal_offer.ensures
