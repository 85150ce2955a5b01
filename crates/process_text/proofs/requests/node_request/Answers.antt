use Rattle.std.proofs.Common.{true, false, None, Some, refl, sym, ◌∙◌}
use Rattle.process_text.proofs.Requested.{a_packet, asked_by}
use Rattle.process_text.proofs.requests.node_request.Goals as goal

pub returns-then-is_some : goal.returns-then-is_some
returns-then-is_some c = λ below. a_packet c.args.line.now below c.packet_lines.result c.packet_lines.ensures.value (sym c.is_some.ensures ∙ c.if-is_some.true)

pub returns-then-is_same : goal.returns-then-is_same
returns-then-is_same c = λ below.
    asked_by c.args.line.now below c.packet_lines.result true _ _ _ c.packet_lines.ensures.value (sym c.is_some.ensures ∙ c.if-is_some.false)
    (sym c.if-is_same.true ∙ c.is_same.ensures) refl refl refl

pub returns-then-is_same-2 : goal.returns-then-is_same-2
returns-then-is_same-2 c = λ below.
    asked_by c.args.line.now below c.packet_lines.result false true _ _ c.packet_lines.ensures.value (sym c.is_some.ensures ∙ c.if-is_some.false)
    (sym c.if-is_same.false ∙ c.is_same.ensures) (sym c.if-is_same-2.true ∙ c.is_same-2.ensures) refl refl

pub returns-in-Some : goal.returns-in-Some
returns-in-Some c = λ below.
    asked_by c.args.line.now below c.packet_lines.result false false (Some c.in-Some.period) _ c.packet_lines.ensures.value (sym c.is_some.ensures ∙ c.if-is_some.false)
    (sym c.if-is_same.false ∙ c.is_same.ensures) (sym c.if-is_same-2.false ∙ c.is_same-2.ensures) (sym c.in-Some.is ∙ c.read_period.ensures) refl

pub returns-in-Some-read_given : goal.returns-in-Some-read_given
returns-in-Some-read_given c = λ below.
    asked_by c.args.line.now below c.packet_lines.result false false None (Some (c.in-Some-read_given.agent, c.in-Some-read_given.seq))
    c.packet_lines.ensures.value (sym c.is_some.ensures ∙ c.if-is_some.false)
    (sym c.if-is_same.false ∙ c.is_same.ensures) (sym c.if-is_same-2.false ∙ c.is_same-2.ensures) (sym c.in_default.is ∙ c.read_period.ensures)
    (sym c.in-Some-read_given.is ∙ c.read_given.ensures)

pub returns-in-None : goal.returns-in-None
returns-in-None c = λ below.
    asked_by c.args.line.now below c.packet_lines.result false false None None c.packet_lines.ensures.value (sym c.is_some.ensures ∙ c.if-is_some.false)
    (sym c.if-is_same.false ∙ c.is_same.ensures) (sym c.if-is_same-2.false ∙ c.is_same-2.ensures) (sym c.in_default.is ∙ c.read_period.ensures)
    (sym c.in-None.is ∙ c.read_given.ensures)
