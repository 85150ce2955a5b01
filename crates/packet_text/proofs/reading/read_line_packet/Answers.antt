use Rattle.std.proofs.Common.{sym}
use Rattle.metering_model.specs.BatchReading.{fields_in}
use Rattle.group_node.specs.Packets.{packet_of}
use Rattle.packet_text.proofs.PartsRead.{accept_stored, accepted_stored, decided_stored, is_accept, is_accepted, is_decided, is_other, is_prepare, is_promise, no_want, promise_stored, says_option, says_so, want_so}
use Rattle.packet_text.proofs.reading.read_line_packet.Goals as goal

pub returns-then-is_same-clause-read : goal.returns-then-is_same-clause-read
returns-then-is_same-clause-read c =
    let is = is_prepare c.args.word.now (fields_in c.args.numbers.now) (sym c.if-is_same.ensures) in
    says_so packet_of c.ok_or.result _ _ is (says_option packet_of c.ok_or.result c.read_prepare.result _ c.ok_or.ensures.value c.read_prepare.ensures)

pub returns-then-is_same-clause-want : goal.returns-then-is_same-clause-want
returns-then-is_same-clause-want c = no_want c.ok_or.result c.read_prepare.result _ c.ok_or.ensures.value

pub returns-then-is_same-2-clause-read : goal.returns-then-is_same-2-clause-read
returns-then-is_same-2-clause-read c =
    let is = is_promise c.args.word.now (fields_in c.args.numbers.now) (sym c.if-is_same.ensures) (sym c.if-is_same-2.ensures) in
    says_so packet_of c.read_promise.result _ _ is c.read_promise.ensures

pub returns-then-is_same-2-clause-want : goal.returns-then-is_same-2-clause-want
returns-then-is_same-2-clause-want c = want_so c.read_promise.result (promise_stored c.args.word.now (sym c.if-is_same-2.ensures))

pub returns-then-is_same-3-clause-read : goal.returns-then-is_same-3-clause-read
returns-then-is_same-3-clause-read c =
    let is = is_accept c.args.word.now (fields_in c.args.numbers.now) (sym c.if-is_same.ensures) (sym c.if-is_same-2.ensures) (sym c.if-is_same-3.ensures) in
    says_so packet_of c.read_accept.result _ _ is c.read_accept.ensures

pub returns-then-is_same-3-clause-want : goal.returns-then-is_same-3-clause-want
returns-then-is_same-3-clause-want c = want_so c.read_accept.result (accept_stored c.args.word.now (sym c.if-is_same-3.ensures))

pub returns-then-is_same-4-clause-read : goal.returns-then-is_same-4-clause-read
returns-then-is_same-4-clause-read c =
    let is = is_accepted c.args.word.now (fields_in c.args.numbers.now) (sym c.if-is_same.ensures) (sym c.if-is_same-2.ensures) (sym c.if-is_same-3.ensures) (sym c.if-is_same-4.ensures) in
    says_so packet_of c.read_accepted.result _ _ is c.read_accepted.ensures

pub returns-then-is_same-4-clause-want : goal.returns-then-is_same-4-clause-want
returns-then-is_same-4-clause-want c = want_so c.read_accepted.result (accepted_stored c.args.word.now (sym c.if-is_same-4.ensures))

pub returns-then-is_same-5-clause-read : goal.returns-then-is_same-5-clause-read
returns-then-is_same-5-clause-read c =
    let is = is_decided c.args.word.now (fields_in c.args.numbers.now) (sym c.if-is_same.ensures) (sym c.if-is_same-2.ensures) (sym c.if-is_same-3.ensures) (sym c.if-is_same-4.ensures) (sym c.if-is_same-5.ensures) in
    says_so packet_of c.read_decided.result _ _ is c.read_decided.ensures

pub returns-then-is_same-5-clause-want : goal.returns-then-is_same-5-clause-want
returns-then-is_same-5-clause-want c = want_so c.read_decided.result (decided_stored c.args.word.now (sym c.if-is_same-5.ensures))

pub returns-clause-read : goal.returns-clause-read
returns-clause-read c = is_other c.args.word.now (fields_in c.args.numbers.now) (sym c.if-is_same.ensures) (sym c.if-is_same-2.ensures) (sym c.if-is_same-3.ensures) (sym c.if-is_same-4.ensures) (sym c.if-is_same-5.ensures)
