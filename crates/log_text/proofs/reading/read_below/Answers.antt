-- What is kept at first, and then what was added.
use Rattle.std.proofs.Common.{◌≡◌, Ok, Err, sym, ap, ◌∙◌, arith}
use Rattle.log_text.specs.LogText.{BadKept, Torn}
use Rattle.log_text.specs.Inner.Reading.{all_below}
use Rattle.log_text.proofs.ReadSections.{told_by, told_so}
use Rattle.log_text.proofs.ReadLogs.{base_bad, below_fault, below_is}
use Rattle.log_text.proofs.reading.read_below.Goals as goal

pub returns-in_default : goal.returns-in_default
returns-in_default c = below_fault c.args.agents c.args.text.now (record { code = Torn; line = 2 }) (c.in_default.ensures c.args.agents)

pub read_base-requires-clause-counted : goal.read_base-requires-clause-counted
read_base-requires-clause-counted c = c.in-Some.ensures.counted

pub add_increments-requires-clause-lines : goal.add_increments-requires-clause-lines
add_increments-requires-clause-lines c = let all = c.in-Some.ensures.lines_of in let short = c.requires.short in omega (arith, all, short)

pub returns-in-Err-add_increments : goal.returns-in-Err-add_increments
returns-in-Err-add_increments c =
    let base = c.in-Some.base in
    let is = below_is c.args.agents c.args.text.now base.lines base.front.now base.line base.left.now c.in-Some.ensures c.in-Ok.parts c.in-Ok.ensures.0 in
    told_so c.in-Err-add_increments.fault _ _ (λ f e. is ∙ e) c.in-Err-add_increments.ensures

pub returns-in-Ok-add_increments : goal.returns-in-Ok-add_increments
returns-in-Ok-add_increments c =
    let base = c.in-Some.base in
    below_is c.args.agents c.args.text.now base.lines base.front.now base.line base.left.now c.in-Some.ensures c.in-Ok.parts c.in-Ok.ensures.0
    ∙ c.in-Ok-add_increments.ensures.1
    ∙ ap Ok (sym c.of.ensures)

pub returns-in-Err : goal.returns-in-Err
returns-in-Err c =
    let base = c.in-Some.base in
    told_by 2 BadKept c.in-Err.why c.fault_at.result _ (λ f. all_below c.args.agents c.args.text.now ≡ Err f) c.fault_at.ensures
    (base_bad c.args.agents c.args.text.now base.lines base.front.now base.line base.left.now c.in-Some.ensures) c.in-Err.ensures
