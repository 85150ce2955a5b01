use Rattle.std.proofs.Common.{sym, subst, ◌∙◌}
use Rattle.record_view.specs.Spans.{IsReadingOn, IsRecordAt}
use Rattle.record_view.specs.declared.kept.Numbers.{Numbers}
use Rattle.record_view.specs.declared.records.Record.TheVariants as record_is
use Rattle.batch_view.proofs.EntryLaws.{reading_on, amendment_on}
use Rattle.batch_view.proofs.entries.record_of_entry.Goals as goal

pub kept_reading-requires : goal.kept_reading-requires
kept_reading-requires c =
    let n : Numbers = record { kind = c.in-Reading.kind; start = c.in-Reading.start; end = c.in-Reading.end; value = c.value.result } in (
      c.requires.0,
      subst (λ spans. IsReadingOn c.args.version c.args.bytes.now spans n c.requires.0) (sym c.spans.ensures)
          (reading_on c.args.version c.args.bytes.now c.requires.0 c.args.entry.now n c.requires.1 (sym c.found.ensures ∙ c.in-Reading.is) c.value.ensures),
    )

pub returns-in-Reading : goal.returns-in-Reading
returns-in-Reading c = λ line at.
    let n : Numbers = record { kind = c.in-Reading.kind; start = c.in-Reading.start; end = c.in-Reading.end; value = c.value.result } in
    c.kept_reading.ensures line (subst (λ spans. IsReadingOn c.args.version c.args.bytes.now spans n line) (sym c.spans.ensures)
    (reading_on c.args.version c.args.bytes.now line c.args.entry.now n at (sym c.found.ensures ∙ c.in-Reading.is) c.value.ensures))

pub returns-in-Amend : goal.returns-in-Amend
returns-in-Amend c = λ line at.
    subst (λ value. IsRecordAt c.args.version c.args.bytes.now line (record_is.Amend c.in-Amend.seq c.in-Amend.index value)) (sym c.value-in-Amend.ensures)
    (amendment_on c.args.version c.args.bytes.now line c.args.entry.now _ _ at (sym c.found.ensures ∙ c.in-Amend.is))
