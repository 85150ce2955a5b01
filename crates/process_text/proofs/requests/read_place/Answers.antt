use Rattle.std.proofs.Common.{◌≡◌, ℕ, ◌+◌, ◌-◌, List, length, take, drop, sym, ap, ap₂, ◌∙◌, arith}
use Rattle.std.proofs.lemmas.List.{length-drop, take_all}
use Rattle.metering_model.specs.BatchReading.{whole_in}
use Rattle.process_text.specs.Requests.{both, place_at}
use Rattle.process_text.proofs.requests.read_place.Goals as goal

-- a slice that goes to the end
to_end : (t : List ℕ) (n : ℕ) → take (length t - n) (drop n t) ≡ drop n t
to_end t n = take_all (length t - n) (drop n t) (omega (arith, length-drop n t))

pub returns-in_default-read_whole-2 : goal.returns-in_default-read_whole-2
returns-in_default-read_whole-2 c =
    let text = c.args.text.now in
    let seq = ap (whole_in 1 1_000_000) (sym (to_end text (c.in-Some.space + 1))) ∙ sym c.in_default-read_whole-2.ensures.value in
    sym (ap (place_at text) (sym c.in-Some.ensures) ∙ ap₂ both (sym c.in-Some-read_whole.ensures.value) seq)

pub returns : goal.returns
returns c =
    let text = c.args.text.now in
    let seq = ap (whole_in 1 1_000_000) (sym (to_end text (c.in-Some.space + 1))) ∙ sym c.in-Some-read_whole-2.ensures.value in
    sym (ap (place_at text) (sym c.in-Some.ensures) ∙ ap₂ both (sym c.in-Some-read_whole.ensures.value) seq)
