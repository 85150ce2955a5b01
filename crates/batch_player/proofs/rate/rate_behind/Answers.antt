use Rattle.std.proofs.Common.{◌≡◌, ◌-◌, Err, length-drop, take, drop, sym, ap, ◌∙◌, arith}
use Rattle.std.proofs.lemmas.List.{take_all}
use Rattle.std.specs.List.{slice_range}
use Rattle.metering_model.specs.BatchReading.{batch_in}
use Rattle.batch_player.proofs.JournaledLaws.{no_batch, not_filed}
use Rattle.program_input.proofs.FaultLaws.{same_refusal}
use Rattle.batch_player.proofs.rate.rate_behind.Goals as goal

pub returns-in-Ok-Bad-clause-refused : goal.returns-in-Ok-Bad-clause-refused
returns-in-Ok-Bad-clause-refused g c = λ refusal is.
    let input = c.args.input.items in
    let from = c.args.from in
    let to = c.len-to.result in
    let shared = ap (λ v. slice_range v.items from to) c.in-Ok.ensures.ok in
    let all : take (to - from) (drop from input) ≡ drop from input = take_all (to - from) (drop from input) (omega (arith, length-drop from input, c.len-to.ensures)) in
    let bad = rw c.in-Ok-Bad.field-0-is at c.in-Ok-Bad.ensures.answer in
    not_filed c.args.sheet.now c.args.issuer.now (drop from input) c.args.period refusal
    (no_batch c.args.sheet.now c.args.issuer.now (drop from input) c.in-Ok-Bad.fault (ap batch_in (sym (shared ∙ all)) ∙ bad) ∙ ap Err (same_refusal _ refusal is))
