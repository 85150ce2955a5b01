use Rattle.std.proofs.Common.{Err, drop, sym, ap, ◌∙◌, rules}
use Rattle.std.specs.Io.KnownBytes.{Appends}
use Rattle.counted_io.specs.Writing.{AppendsPrefix}
use Rattle.input_sections.specs.RateInput.{RateInput}
use Rattle.batch_player.specs.RateInput.{or_refused}
use Rattle.batch_player.proofs.RatedLaws.{rated_badly, rated_well, filed_input, prefix_of_input, told_plain}
use Rattle.batch_player.proofs.rate.rate_input_text.Goals as goal

pub returns-in-Err-clause-section : goal.returns-in-Err-clause-section
returns-in-Err-clause-section g c = λ fault is.
    let told = told_plain c.in-Err.fault fault (search rules) in
    let bad = rw c.deref.ensures.value at (c.in-Err.ensures.refused told.1) in
    (λ memory. told.1 (sym told.0 ∙ memory), rated_badly c.args.period c.args.input.items fault (bad ∙ ap Err (sym told.0)))

pub returns-clause-file : goal.returns-clause-file
returns-clause-file g c =
    let input = c.args.input.items in
    let has = c.in-Ok.given in
    let given : RateInput = record { sheet = has.sheet; issuer = has.issuer; batch = drop has.batch_from input } in
    let taken = rw c.deref.ensures.value at c.in-Ok.ensures.taken in
    let filed = c.rate_behind.ensures.file in
    filed_input c.args.period input given taken c.in-Ok.ensures.rules.0 c.in-Ok.ensures.rules.1 c.rate_behind.result
    (Appends (g.W.Sink.contents c.args.writer.now) (g.W.Sink.contents c.rate_behind.new.writer)) filed

pub returns-clause-prefix : goal.returns-clause-prefix
returns-clause-prefix g c = λ is.
    let input = c.args.input.items in
    let has = c.in-Ok.given in
    let given : RateInput = record { sheet = has.sheet; issuer = has.issuer; batch = drop has.batch_from input } in
    let taken = rw c.deref.ensures.value at c.in-Ok.ensures.taken in
    let filed = c.rate_behind.ensures.prefix is in
    prefix_of_input c.args.period input given taken c.in-Ok.ensures.rules.0 c.in-Ok.ensures.rules.1
    (AppendsPrefix (g.W.Sink.contents c.args.writer.now) (g.W.Sink.contents c.rate_behind.new.writer)) filed

pub returns-clause-refused : goal.returns-clause-refused
returns-clause-refused g c = λ refusal is.
    let input = c.args.input.items in
    let has = c.in-Ok.given in
    let given : RateInput = record { sheet = has.sheet; issuer = has.issuer; batch = drop has.batch_from input } in
    let taken = rw c.deref.ensures.value at c.in-Ok.ensures.taken in
    let refused = c.rate_behind.ensures.refused refusal is in
    rated_well c.args.period input given taken ∙ ap or_refused refused
