use Rattle.std.proofs.Common.{◌≡◌, Some, None, Err, sym, ap, ◌∙◌, arith}
use Rattle.metering_model.specs.declared.BrokenRule.TheVariants.{BadTarget, Unpriced}
use Rattle.std.proofs.lemmas.Option.{same_Some}
use Rattle.batch_view.specs.Batches.{batch_of}
use Rattle.batch_player.proofs.JournaledLaws.{broken_alone, later_batch, bad_target, unpriced, taken}
use Rattle.batch_player.proofs.rate.first_refusal.Goals as goal

pub returns-then-seq-ne1-clause-refused : goal.returns-then-seq-ne1-clause-refused
returns-then-seq-ne1-clause-refused c = λ refusal is issuer.
    let text = c.args.view.now in
    let seq = c.seq.ensures.value in
    later_batch c.args.sheet.now issuer text (batch_of text) c.bytes-bytes.ensures.batch (λ first. omega (arith, seq, first)) ∙ ap Err (same_Some _ refusal is)

pub returns-in-Some-BadTarget-clause-refused : goal.returns-in-Some-BadTarget-clause-refused
returns-in-Some-BadTarget-clause-refused c = λ refusal is issuer.
    let text = c.args.view.now in
    let seq = c.seq.ensures.value in
    let rule : broken_alone c.args.sheet.now (batch_of text) ≡ Some BadTarget = sym c.in-Some-BadTarget.ensures ∙ ap Some c.in-Some-BadTarget.field-0-is in
    bad_target c.args.sheet.now issuer text (batch_of text) c.bytes-bytes.ensures.batch (omega (arith, seq)) rule ∙ ap Err (same_Some _ refusal is)

pub returns-in-Some-Unpriced-clause-refused : goal.returns-in-Some-Unpriced-clause-refused
returns-in-Some-Unpriced-clause-refused c = λ refusal is issuer.
    let text = c.args.view.now in
    let seq = c.seq.ensures.value in
    let rule : broken_alone c.args.sheet.now (batch_of text) ≡ Some Unpriced = sym c.in-Some-Unpriced.ensures ∙ ap Some c.in-Some-Unpriced.field-0-is in
    unpriced c.args.sheet.now issuer text (batch_of text) c.bytes-bytes.ensures.batch (omega (arith, seq)) rule ∙ ap Err (same_Some _ refusal is)

pub returns-in-None-clause-journaled : goal.returns-in-None-clause-journaled
returns-in-None-clause-journaled c = λ is issuer.
    let text = c.args.view.now in
    let seq = c.seq.ensures.value in
    let rule : broken_alone c.args.sheet.now (batch_of text) ≡ None = sym c.in-None.ensures in
    taken c.args.sheet.now issuer text (batch_of text) c.bytes-bytes.ensures.batch (omega (arith, seq)) rule
