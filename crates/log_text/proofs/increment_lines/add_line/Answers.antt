-- The word chooses what is added.
use Rattle.std.proofs.Common.{sym, ap, subst, ◌∙◌}
use Rattle.metering_model.specs.BatchReading.{fields_in}
use Rattle.log_text.specs.LogText.{line_increment_in}
use Rattle.log_text.specs.Inner.Reading.{Adds, gone_on}
use Rattle.log_text.proofs.ReadFields.{by_ballot, by_learned, by_none, word_alone}
use Rattle.log_text.proofs.increment_lines.add_line.Goals as goal

pub returns-in_default : goal.returns-in_default
returns-in_default c = let k = c.args.parts.now in ap (gone_on k) (ap (line_increment_in k.agents) c.in_default.ensures ∙ word_alone k.agents c.args.line.now)

pub returns-then-is_same-2 : goal.returns-then-is_same-2
returns-then-is_same-2 c =
    let k = c.args.parts.now in
    subst (Adds c.add_ballots_of.result k c.add_ballots_of.new.parts)
    (sym (ap (line_increment_in k.agents) c.in-Some.ensures ∙ by_ballot k.agents c.in-Some.word.now (fields_in c.in-Some.fields.now) (sym c.is_same.ensures ∙ c.if-is_same.false) (sym c.is_same-2.ensures ∙ c.if-is_same-2.true))) c.add_ballots_of.ensures

pub returns-then-is_same-3 : goal.returns-then-is_same-3
returns-then-is_same-3 c =
    let k = c.args.parts.now in
    subst (Adds c.add_learned.result k c.add_learned.new.parts)
    (sym (ap (line_increment_in k.agents) c.in-Some.ensures
    ∙ by_learned k.agents c.in-Some.word.now (fields_in c.in-Some.fields.now) (sym c.is_same.ensures ∙ c.if-is_same.false) (sym c.is_same-2.ensures ∙ c.if-is_same-2.false) (sym c.is_same-3.ensures ∙ c.if-is_same-3.true)))
    c.add_learned.ensures

pub returns : goal.returns
returns c =
    let k = c.args.parts.now in
    ap (gone_on k) (ap (line_increment_in k.agents) c.in-Some.ensures
    ∙ by_none k.agents c.in-Some.word.now (fields_in c.in-Some.fields.now) (sym c.is_same.ensures ∙ c.if-is_same.false) (sym c.is_same-2.ensures ∙ c.if-is_same-2.false) (sym c.is_same-3.ensures ∙ c.if-is_same-3.false))
