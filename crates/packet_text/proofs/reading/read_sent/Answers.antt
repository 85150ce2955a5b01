use Rattle.std.proofs.Common.{ap, ◌∙◌}
use Rattle.packet_text.specs.Inner.Numbers.{sent_in}
use Rattle.packet_text.proofs.NumberSteps.{sent_alone}
use Rattle.packet_text.proofs.reading.read_sent.Goals as goal

pub returns-in_default : goal.returns-in_default
returns-in_default c = ap sent_in c.in_default.ensures ∙ sent_alone c.args.fields.now
