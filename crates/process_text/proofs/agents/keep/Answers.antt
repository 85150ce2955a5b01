use Rattle.std.proofs.Common.{sym, subst, ◌∙◌}
use Rattle.packet_text.proofs.Pieces.{then_ok}
use Rattle.process_laws.specs.LocalSteps.{TellJournal}
use Rattle.process_text.specs.Requests.{AsksAgent}
use Rattle.process_text.specs.Inner.Written.{AppendsAgent}
use Rattle.process_text.proofs.Told.{agent_keeps}
use Rattle.process_text.proofs.agents.keep.Goals as goal

pub returns : goal.returns
returns c =
    then_ok c.put_kept_text.result _ _
    (λ put. subst (λ t. AppendsAgent (AsksAgent TellJournal) c.args.agent.now c.args.agent.now c.args.text.now.items t) (sym put)
    (agent_keeps c.args.agent.now c.args.text.now.items c.deref.result.now (c.deref.ensures.value ∙ c.in-Ok.ensures)))
    c.put_kept_text.ensures
