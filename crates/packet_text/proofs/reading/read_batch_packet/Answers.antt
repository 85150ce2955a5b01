-- A batch has as many lines as are said.
use Rattle.std.proofs.Common.{◌+◌, length, Ok, sym, ap, ◌∙◌}
use Rattle.std.specs.Arc.{arc_value}
use Rattle.batch_view.specs.Batches.{batch_of}
use Rattle.packet_text.proofs.Fields.{batch_there, no_batch_there, no_packet_so, other_batch_there}
use Rattle.packet_text.proofs.reading.read_batch_packet.Goals as goal

pub returns-in_default : goal.returns-in_default
returns-in_default c = c.in_default.ensures c.args.below.now

pub returns-in-Err : goal.returns-in-Err
returns-in-Err c =
    no_packet_so c.in-Err.why _ _ (λ none. no_batch_there c.args.numbers.now c.args.below.now c.in-Some.lines c.in-Some.ensures.0 c.in-Some.ensures.1 none) c.in-Err.ensures

pub returns-then-lines-count : goal.returns-then-lines-count
returns-then-lines-count c =
    let read = c.in-Ok.ensures in
    let lines = ap (λ n. 1 + n) (c.count.ensures.value ∙ ap (λ t. length (batch_of t).records) (c.view.ensures ∙ c.deref.ensures)) in
    other_batch_there c.args.numbers.now c.args.below.now c.in-Some.lines (batch_of (arc_value c.in-Ok.batch)) c.in-Some.ensures.0 c.in-Some.ensures.1
    (read.1 ∙ ap (λ t. Ok (batch_of t)) (sym read.0)) (λ same. c.if-lines-count.true (same ∙ sym lines))

pub returns : goal.returns
returns c =
    let read = c.in-Ok.ensures in
    let lines = c.if-lines-count.false ∙ ap (λ n. 1 + n) (c.count.ensures.value ∙ ap (λ t. length (batch_of t).records) (c.view.ensures ∙ c.deref.ensures)) in
    batch_there c.args.numbers.now c.args.below.now c.in-Some.lines (batch_of (arc_value c.in-Ok.batch)) c.in-Some.ensures.0 c.in-Some.ensures.1
    (read.1 ∙ ap (λ t. Ok (batch_of t)) (sym read.0)) lines
