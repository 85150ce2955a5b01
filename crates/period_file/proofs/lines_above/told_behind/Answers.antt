use Rattle.std.proofs.Common.{◌≡◌, ◌∙◌, ℕ, ◌<◌, ◌≤◌, List, ◌++◌, length, take, drop, min, Option, Some, None, MatchOption, unwrap_or, true, sym, ap, ap₂, arith}
use Rattle.std.specs.Bool.{IsTrue}
use Rattle.std.proofs.lemmas.List.{take-append-drop}
use Rattle.metering_model.specs.NumberText.{is_whole_part, number_of}
use Rattle.metering_model.specs.BatchReading.{is_same}
use Rattle.metering_model.proofs.FieldLaws.{same_read}
use Rattle.transcript_laws.specs.FirstFiles.{told_behind}
use Rattle.transcript_laws.proofs.FirstFileLaws.{parts_told}
use Rattle.period_file.proofs.lines_above.told_behind.Goals as goal

counted : (number n : ℕ) (r : Option ℕ) → MatchOption r (4_294_967_297 < number) (λ k. (k ≡ number) × (k ≤ 4_294_967_297)) → n ≡ unwrap_or r 4_294_967_297 → n ≡ min 4_294_967_297 number
counted number n None many is = omega (arith, many, is)
counted number n (Some k) few is = let same = few.0 in let within = few.1 in omega (arith, same, within, is)

-- where the text is a number
as_number : (number : List ℕ) (r : Option ℕ) → is_whole_part number ≡ true
    → MatchOption r (IsTrue (is_whole_part number) → 4_294_967_297 < number_of number) (λ k. IsTrue (is_whole_part number) × (k ≡ number_of number) × (k ≤ 4_294_967_297))
    → MatchOption r (4_294_967_297 < number_of number) (λ k. (k ≡ number_of number) × (k ≤ 4_294_967_297))
as_number number None whole many = many whole
as_number number (Some k) whole few = (few.1, few.2)

told : (words line prefix number : List ℕ) → prefix ≡ take (length words) line → number ≡ drop (length words) line → is_same prefix words ≡ true → is_whole_part number ≡ true
    → told_behind words line ≡ Some (number_of number)
told words line prefix number is_prefix is_number same whole =
    let joined : line ≡ words ++ number = sym (take-append-drop (length words) line) ∙ ap₂ ◌++◌ (sym is_prefix ∙ same_read prefix words same) (sym is_number) in
    ap (told_behind words) joined ∙ parts_told words number whole

pub returns-then-is_whole_part : goal.returns-then-is_whole_part
returns-then-is_whole_part c =
    let number = c.split_at.result.1.now in
    let same : is_same c.split_at.result.0.now c.args.words.now ≡ true = sym c.is_same.ensures ∙ c.if-is_same.true in
    let whole : is_whole_part c.split_at.result.1.now ≡ true = sym c.is_whole_part.ensures ∙ c.if-is_whole_part.true in (
      number_of number,
      told c.args.words.now c.args.line.now c.split_at.result.0.now number c.split_at.ensures.front c.split_at.ensures.back same whole,
      counted (number_of number) c.unwrap_or.result c.whole_up_to.result (as_number number c.whole_up_to.result whole c.whole_up_to.ensures) c.unwrap_or.ensures,
    )
