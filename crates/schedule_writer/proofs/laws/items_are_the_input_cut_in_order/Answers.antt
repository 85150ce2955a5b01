use Rattle.schedule_writer.proofs.ItemLaws.{input_cut, input_placed}
use Rattle.schedule_writer.proofs.LoneLines.{lone_line}
use Rattle.schedule_writer.proofs.laws.items_are_the_input_cut_in_order.Goals as goal

pub returns-clause-whole : goal.returns-clause-whole
returns-clause-whole c = λ input given is. input_cut input given is

pub returns-clause-places : goal.returns-clause-places
returns-clause-places c = λ input given before behind b is cut. input_placed input given before behind b cut

pub returns-clause-alone : goal.returns-clause-alone
returns-clause-alone c = lone_line
