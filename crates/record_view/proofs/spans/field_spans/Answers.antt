-- What a reading lends, and where its line ends, tell where its other fields stand.
use Rattle.std.proofs.Common.{Ok, sym, ap, ◌∙◌, arith}
use Rattle.record_view.specs.Lent.{record_texts, record_of, model_reading}
use Rattle.record_view.proofs.SpanLaws.{nine_spans, region_fits, spans_taken, four_fields_of}
use Rattle.record_view.proofs.spans.field_spans.Goals as goal

pub last_spans-tags_to-requires : goal.last_spans-tags_to-requires
last_spans-tags_to-requires c =
    let s = nine_spans c.args.version c.args.source.now c.args.line c.in-Reading.reading c.requires.ordered c.requires.within
    (c.requires.read ∙ ap (λ r. Ok (record_of r)) c.in-Reading.is) (sym (ap record_texts c.in-Reading.is) ∙ c.requires.lent.places) in
    s.region_behind

pub overflow_sub-result : goal.overflow_sub-result
overflow_sub-result c =
    let s = nine_spans c.args.version c.args.source.now c.args.line c.in-Reading.reading c.requires.ordered c.requires.within
    (c.requires.read ∙ ap (λ r. Ok (record_of r)) c.in-Reading.is) (sym (ap record_texts c.in-Reading.is) ∙ c.requires.lent.places) in
    omega (arith, s.start_behind)

pub returns-in-Reading : goal.returns-in-Reading
returns-in-Reading c =
    let s = nine_spans c.args.version c.args.source.now c.args.line c.in-Reading.reading c.requires.ordered c.requires.within
    (c.requires.read ∙ ap (λ r. Ok (record_of r)) c.in-Reading.is) (sym (ap record_texts c.in-Reading.is) ∙ c.requires.lent.places) in
    let fits = region_fits c.args.version c.args.source.now c.args.line (model_reading c.in-Reading.reading)
    (c.requires.read ∙ ap (λ r. Ok (record_of r)) c.in-Reading.is) in
    rw c.in-Reading.is (spans_taken c.args.version _ _ _ _ _ _ _ _ _ _ _ _ _ _ fits c.last_spans-tags_to.ensures ∙ sym s.are)

pub unreachable-requires : goal.unreachable-requires
unreachable-requires c = c.in-None.ensures (four_fields_of c.args.version c.args.source.now c.args.line _ _ _ (c.requires.read ∙ ap (λ r. Ok (record_of r)) c.in-Amend.is))
