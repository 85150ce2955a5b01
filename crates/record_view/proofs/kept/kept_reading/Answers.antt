use Rattle.record_view.proofs.KeptLaws.{nine_within, region_within, tags_known, kept}
use Rattle.std.proofs.Common.{arith}
use Rattle.record_view.proofs.kept.kept_reading.Goals as goal

pub lend_fields-requires-clause-within : goal.lend_fields-requires-clause-within
lend_fields-requires-clause-within c =
    let on = c.requires.1 in
    nine_within c.args.version c.args.source.now c.requires.0 c.args.spans.now on.ordered on.within on.are (omega arith)

pub lend_fields-requires-clause-tags : goal.lend_fields-requires-clause-tags
lend_fields-requires-clause-tags c =
    let on = c.requires.1 in
    tags_known c.args.version c.args.source.now c.requires.0 c.args.spans.now on.numbers.reading on.ordered on.within on.are on.numbers.read

pub lend_fields-requires-clause-region : goal.lend_fields-requires-clause-region
lend_fields-requires-clause-region c =
    let on = c.requires.1 in
    region_within c.args.version c.args.source.now c.requires.0 c.args.spans.now on.ordered on.within on.are

pub returns : goal.returns
returns c = λ line on.
    kept c.args.version c.args.source.now line c.args.spans.now c.args.numbers c.lend_fields.result on.ordered on.within on.are on.numbers c.lend_fields.ensures
