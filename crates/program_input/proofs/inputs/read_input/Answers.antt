use Rattle.std.proofs.Common.{ap, ◌∙◌}
use Rattle.counted_io.specs.Counts.{count_after}
use Rattle.program_input.proofs.ReadInputs.{whole_read, end_read, section_read, reader_told, reads_alone}
use Rattle.program_input.proofs.inputs.read_input.Goals as goal

pub returns-clause-whole : goal.returns-clause-whole
returns-clause-whole g c = rw c.answer_of.ensures (whole_read c.read_to_limit.result 16_777_216 _ c.read_to_limit.ensures.answer)

pub returns-clause-end : goal.returns-clause-end
returns-clause-end g c = rw c.answer_of.ensures (end_read c.read_to_limit.result 16_777_216 _ c.read_to_limit.ensures.end)

pub returns-clause-section : goal.returns-clause-section
returns-clause-section g c =
    rw c.answer_of.ensures (section_read c.read_to_limit.result 16_777_216 (g.R.Source.remaining c.args.reader.now) c.read_to_limit.ensures.answer)

pub returns-clause-count : goal.returns-clause-count
returns-clause-count g c =
    rw c.answer_of.ensures
    (c.read_to_limit.ensures.count ∙ ap (λ told. count_after told (g.R.Source.failed_calls c.args.reader.now)) (reader_told c.read_to_limit.result))

pub returns-clause-no_other : goal.returns-clause-no_other
returns-clause-no_other g c = rw c.answer_of.ensures (reads_alone c.read_to_limit.result)
