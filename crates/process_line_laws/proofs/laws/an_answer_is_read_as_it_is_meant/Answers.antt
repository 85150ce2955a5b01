use Rattle.process_line_laws.proofs.ReadAnswers.{agent_meant, answer_meant, begun_told, node_meant, refused_told}
use Rattle.process_line_laws.proofs.laws.an_answer_is_read_as_it_is_meant.Goals as goal

pub returns-clause-answer : goal.returns-clause-answer
returns-clause-answer c = answer_meant

pub returns-clause-node : goal.returns-clause-node
returns-clause-node c = node_meant

pub returns-clause-agent : goal.returns-clause-agent
returns-clause-agent c = agent_meant

pub returns-clause-refused : goal.returns-clause-refused
returns-clause-refused c = refused_told

pub returns-clause-begun : goal.returns-clause-begun
returns-clause-begun c = begun_told
