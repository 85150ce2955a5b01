-- The line below the head may say how many lines a base has, which stand below it.
use Rattle.std.proofs.Common.{◌+◌, sym, ap}
use Rattle.log_text.proofs.ReadSections.{base_there, base_torn, no_base, nothing_first}
use Rattle.log_text.proofs.bases.find_base.Goals as goal

pub returns-in_default : goal.returns-in_default
returns-in_default c = nothing_first c.args.text.now c.in_default.ensures

pub returns-in_default-read_section : goal.returns-in_default-read_section
returns-in_default-read_section c = no_base c.args.text.now c.in-Some.line.now c.in-Some.below.now c.in-Some.ensures (sym c.in_default-read_section.ensures)

pub returns-in_default-lines_length : goal.returns-in_default-lines_length
returns-in_default-lines_length c =
    base_torn c.args.text.now c.in-Some.line.now c.in-Some.below.now c.in-Some.ensures c.in-Some-read_section.lines (sym c.in-Some-read_section.ensures) c.in_default-lines_length.ensures

pub returns : goal.returns
returns c =
    base_there c.args.text.now c.in-Some.line.now c.in-Some.below.now c.in-Some.ensures c.in-Some-read_section.lines (sym c.in-Some-read_section.ensures) c.in-Some-lines_length.length c.in-Some-lines_length.ensures
    c.split_at.result.0.now c.split_at.result.1.now (3 + c.from.result) c.split_at.ensures.front c.split_at.ensures.back (ap (λ n. 3 + n) c.from.ensures)
