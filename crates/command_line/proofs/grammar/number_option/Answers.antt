-- The numbers that are let through are those from the one to the other, since both are numbers of 16 bits.
use mir.Syntax.{w64}
use mir.Val.{of_z, to_z}
use Rattle.std.proofs.Common.{◌≡◌, ◌<◌, ◌^◌, ℕ, ℤ, Option, Some, pos, arith, ap, ap₂, subst, ◌∙◌}
use Rattle.std.proofs.lemmas.Int.{ints, to_z_pos}
use Rattle.clap.specs.Words.{NarrowsTo, Rule, rule_of}
use Rattle.clap.specs.declared.builder.value_parser.ValueParser.{ValueParser}
use Rattle.clap.specs.declared.builder.value_parser.ValueParser.TheVariants as parser
use Rattle.command_line.proofs.grammar.number_option.Goals as goal

passed : (n : ℕ) (z : ℤ) → n < 2 ^ 16 → z ≡ pos n → to_z w64 (of_z w64 z) ≡ pos n
passed n z small is =
    let wide : n < 2 ^ 63 = omega (arith, small) in
    ap (λ x. to_z w64 (of_z w64 x)) is ∙ to_z_pos w64 n wide

narrowed : (least most : ℕ) (whole p : ValueParser) (first last : ℤ) → least < 2 ^ 16 → most < 2 ^ 16 → whole ≡ parser.Signed (pos 0) (pos 65_535) → first ≡ pos least → last ≡ pos most
    → NarrowsTo whole (Some first) (Some last) p → p ≡ parser.Signed (pos least) (pos most)
narrowed least most whole p first last small_least small_most is_whole is_first is_last narrows =
    let all : NarrowsTo (parser.Signed (pos 0) (pos 65_535)) (Some (pos least)) (Some (pos most)) p =
    subst (λ w. NarrowsTo w (Some (pos least)) (Some (pos most)) p) is_whole
    (subst (λ z. NarrowsTo whole (Some (pos least)) (Some z) p) is_last (subst (λ z. NarrowsTo whole (Some z) (Some last) p) is_first narrows)) in
    all ∙ grind (arith, ints)

pub returns-clause-rule : goal.returns-clause-rule
returns-clause-rule c =
    let first = c.new.ensures.start ∙ passed c.args.least c.from.result c.ranges.least.fits c.from.ensures in
    let last = c.new.ensures.end ∙ passed c.args.most c.from-2.result c.ranges.most.fits c.from-2.ensures in
    let given = c.value_parser-2.ensures.given in
    let numbers = given.2 ∙ narrowed c.args.least c.args.most c.value_parser.result c.range-numbers.result _ _ c.ranges.least.fits c.ranges.most.fits c.value_parser.ensures first last c.range-numbers.ensures in
    ap rule_of c.value_parser-2.ensures.others ∙ ap₂ (λ (r : Rule) (p : Option ValueParser). record r { parser = p }) c.text_option.ensures.rule (given.1 ∙ ap Some numbers)

pub returns-clause-local : goal.returns-clause-local
returns-clause-local c = ap (λ a. a.global) c.value_parser-2.ensures.others ∙ c.text_option.ensures.local
