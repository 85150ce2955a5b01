-- Each part is read by a call, and the first that is not there is told.
use Rattle.std.proofs.Common.{Ok, sym, ap, ◌∙◌}
use Rattle.log_text.proofs.ReadHeads.{head_there, no_format, no_name, no_sizes, no_who, not_own}
use Rattle.log_text.proofs.head_line.read_head.Goals as goal

pub returns-in_default : goal.returns-in_default
returns-in_default c = c.in_default.ensures

pub returns-then-not-is_same : goal.returns-then-not-is_same
returns-then-not-is_same c = no_format _ _ _ _ _ _ _ _ c.in-Some.ensures (sym c.is_same.ensures ∙ c.if-not-is_same.true)

pub returns-then-not-is_group : goal.returns-then-not-is_group
returns-then-not-is_group c = no_name _ _ _ _ _ _ _ _ c.in-Some.ensures (sym c.is_same.ensures ∙ c.if-not-is_same.false) (sym c.is_group.ensures ∙ c.if-not-is_group.true)

pub returns-in_default-read_who : goal.returns-in_default-read_who
returns-in_default-read_who c =
    no_who _ _ _ _ _ _ _ _ c.in-Some.ensures (sym c.is_same.ensures ∙ c.if-not-is_same.false) (sym c.is_group.ensures ∙ c.if-not-is_group.false) (sym c.in_default-read_who.ensures)

pub returns-in_default-read_sizes : goal.returns-in_default-read_sizes
returns-in_default-read_sizes c =
    no_sizes _ _ _ _ _ _ _ _ c.in-Some.ensures (sym c.is_same.ensures ∙ c.if-not-is_same.false) (sym c.is_group.ensures ∙ c.if-not-is_group.false) _ (sym c.in-Some-read_who.ensures) c.in_default-read_sizes.ensures

pub returns-then-not-is_among : goal.returns-then-not-is_among
returns-then-not-is_among c =
    not_own _ _ _ _ _ _ _ _ c.in-Some.ensures (sym c.is_same.ensures ∙ c.if-not-is_same.false) (sym c.is_group.ensures ∙ c.if-not-is_group.false) _ (sym c.in-Some-read_who.ensures) _ c.in-Some-read_sizes.ensures
    (sym c.is_among.ensures ∙ c.if-not-is_among.true)

pub returns : goal.returns
returns c =
    head_there _ _ _ _ _ _ _ _ c.in-Some.ensures (sym c.is_same.ensures ∙ c.if-not-is_same.false) (sym c.is_group.ensures ∙ c.if-not-is_group.false) _ (sym c.in-Some-read_who.ensures) _ c.in-Some-read_sizes.ensures
    (sym c.is_among.ensures ∙ c.if-not-is_among.false)
    ∙ ap Ok (sym c.new.ensures)
