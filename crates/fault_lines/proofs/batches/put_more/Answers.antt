use Rattle.std.proofs.Common.{◌≡◌, ◌++◌, List, ℕ, OnOk, sym, ap, ap₂, subst, ◌∙◌}
use Rattle.metering_model.specs.declared.Refusal.{Refusal}
use Rattle.fault_lines.specs.Told.{field_words, more_words}
use Rattle.fault_lines.proofs.batches.put_more.Goals as goal

pub returns-in-BadBatch : goal.returns-in-BadBatch
returns-in-BadBatch c =
    let words = ap₂ ◌++◌ (c.field_words.ensures ∙ ap field_words c.field_of.ensures) c.batch_words.ensures in
    let more = ap (λ (r : Refusal). more_words c.args.sheet.now c.args.text.now c.args.bad r) c.in-BadBatch.is in
    subst (λ (t : List ℕ). OnOk c.put_both.result (c.put_both.new.told.items ≡ c.args.told.now.items ++ t)) (words ∙ sym more) c.put_both.ensures
