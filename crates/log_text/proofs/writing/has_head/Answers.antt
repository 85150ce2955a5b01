-- A text that is shorter than the head line does not begin with it.
use Rattle.std.proofs.Common.{◌≡◌, ◌∙◌, ◌++◌, length, min, take, sym, ap, ap₂}
use Rattle.std.proofs.lemmas.List.{take_min}
use Rattle.metering_model.specs.BatchReading.{is_same}
use Rattle.log_text.specs.LogText.{head_text}
use Rattle.log_text.proofs.writing.has_head.Goals as goal

pub returns : goal.returns
returns c =
    let head = head_text c.args.head.now in
    let line : c.deref.result.now ≡ head = c.deref.ensures.value ∙ c.in-Ok.ensures.put ∙ ap (λ t. t ++ head) c.new-line.ensures.items in
    let size : c.min-length.result ≡ min (length head) (length c.args.text.now) = c.min-length.ensures ∙ ap (λ n. min n (length c.args.text.now)) (c.len.ensures ∙ sym c.deref.ensures.len ∙ ap length line) in
    c.is_same.ensures ∙ ap₂ is_same (ap (λ k. take k c.args.text.now) size ∙ take_min (length head) c.args.text.now) line
