use Rattle.process_text.specs.declared.requests.NodeRequest.TheVariants as node
use Rattle.process_text.proofs.Told.{node_answered, node_answered_alone, node_commanded}
use Rattle.process_text.proofs.nodes.answer_node.Goals as goal

pub returns-in-Packet : goal.returns-in-Packet
returns-in-Packet c =
    node_answered_alone c.take.result c.node_request.result node.Packet c.args.line.now c.args.below.now c.args.node.now c.take.new.node c.clear.new.self.items c.take.new.text.items c.args.file.now
    c.node_request.ensures c.in-Packet.is c.clear.ensures.items c.requires c.take.ensures

pub returns-in-Begin : goal.returns-in-Begin
returns-in-Begin c =
    node_answered_alone c.begin.result c.node_request.result node.Begin c.args.line.now c.args.below.now c.args.node.now c.begin.new.node c.clear.new.self.items c.begin.new.text.items c.args.file.now
    c.node_request.ensures c.in-Begin.is c.clear.ensures.items c.requires c.begin.ensures

pub returns-in-Export : goal.returns-in-Export
returns-in-Export c =
    node_answered c.export.result c.node_request.result (node.Export c.in-Export.period) c.args.line.now c.args.below.now c.args.node.now c.args.node.now c.clear.new.self.items _
    c.node_request.ensures c.in-Export.is c.clear.ensures.items c.export.ensures

pub returns-in-Keep : goal.returns-in-Keep
returns-in-Keep c =
    node_answered_alone c.keep.result c.node_request.result node.Keep c.args.line.now c.args.below.now c.args.node.now c.args.node.now c.clear.new.self.items c.keep.new.text.items c.args.file.now
    c.node_request.ensures c.in-Keep.is c.clear.ensures.items c.requires c.keep.ensures

pub returns-in-Give : goal.returns-in-Give
returns-in-Give c =
    node_answered_alone c.give.result c.node_request.result (node.Give c.in-Give.agent c.in-Give.seq) c.args.line.now c.args.below.now c.args.node.now c.args.node.now c.clear.new.self.items c.give.new.text.items c.args.file.now
    c.node_request.ensures c.in-Give.is c.clear.ensures.items c.requires c.give.ensures

pub returns-in-NoCommand : goal.returns-in-NoCommand
returns-in-NoCommand c =
    node_answered_alone c.extend_from_slice.result c.node_request.result node.NoCommand c.args.line.now c.args.below.now c.args.node.now c.args.node.now c.clear.new.self.items c.extend_from_slice.new.self.items c.args.file.now
    c.node_request.ensures c.in-NoCommand.is c.clear.ensures.items c.requires
    (node_commanded c.extend_from_slice.result c.args.node.now c.clear.new.self.items c.extend_from_slice.new.self.items c.extend_from_slice.ensures.items)
