use Rattle.process_text.specs.declared.requests.AgentRequest.TheVariants as agent
use Rattle.process_text.proofs.Told.{agent_answered, agent_commanded}
use Rattle.process_text.proofs.agents.answer_agent.Goals as goal

pub returns-in-Journal : goal.returns-in-Journal
returns-in-Journal c =
    agent_answered c.journal.result c.agent_request.result agent.Journal c.args.line.now c.args.below.now c.args.agent.now c.journal.new.agent c.clear.new.self.items c.journal.new.text.items
    c.agent_request.ensures c.in-Journal.is c.clear.ensures.items c.journal.ensures

pub returns-in-Keep : goal.returns-in-Keep
returns-in-Keep c =
    agent_answered c.keep.result c.agent_request.result agent.Keep c.args.line.now c.args.below.now c.args.agent.now c.args.agent.now c.clear.new.self.items c.keep.new.text.items
    c.agent_request.ensures c.in-Keep.is c.clear.ensures.items c.keep.ensures

pub returns-in-Again : goal.returns-in-Again
returns-in-Again c =
    agent_answered c.again.result c.agent_request.result (agent.Again c.in-Again.seq) c.args.line.now c.args.below.now c.args.agent.now c.args.agent.now c.clear.new.self.items c.again.new.text.items
    c.agent_request.ensures c.in-Again.is c.clear.ensures.items c.again.ensures

pub returns-in-NoCommand : goal.returns-in-NoCommand
returns-in-NoCommand c =
    agent_answered c.extend_from_slice.result c.agent_request.result agent.NoCommand c.args.line.now c.args.below.now c.args.agent.now c.args.agent.now c.clear.new.self.items c.extend_from_slice.new.self.items
    c.agent_request.ensures c.in-NoCommand.is c.clear.ensures.items
    (agent_commanded c.extend_from_slice.result c.args.agent.now c.clear.new.self.items c.extend_from_slice.new.self.items c.extend_from_slice.ensures.items)
