use Rattle.std.proofs.Common.{OnOk, sym, subst, ◌∙◌}
use Rattle.process_text.specs.Requests.{packet_request}
use Rattle.process_text.specs.Inner.Written.{AppendsNode}
use Rattle.process_text.proofs.Told.{foreign_told}
use Rattle.process_text.proofs.nodes.take.Goals as goal

pub returns-in-Ok-Some : goal.returns-in-Ok-Some
returns-in-Ok-Some c =
    subst (λ o. OnOk c.take_packet.result (AppendsNode (packet_request o) c.args.node.now c.take_packet.new.node c.args.text.now.items c.take_packet.new.text.items))
    (sym c.in-Ok-Some.field-0-is ∙ c.in-Ok-Some.ensures.read) c.take_packet.ensures

pub returns-in-Ok-None : goal.returns-in-Ok-None
returns-in-Ok-None c =
    subst (λ o. OnOk c.extend_from_slice.result (AppendsNode (packet_request o) c.args.node.now c.args.node.now c.args.text.now.items c.extend_from_slice.new.self.items))
    (sym c.in-Ok-None.field-0-is ∙ c.in-Ok-None.ensures.read)
    (foreign_told c.extend_from_slice.result c.args.node.now c.args.text.now.items c.extend_from_slice.new.self.items c.extend_from_slice.ensures.items)
