use Rattle.process_line_laws.proofs.History.{come_to_history}
use Rattle.process_line_laws.proofs.laws.lines_come_to_a_history.Goals as goal

pub returns : goal.returns
returns c = come_to_history
