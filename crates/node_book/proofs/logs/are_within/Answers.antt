use Rattle.std.proofs.Common.{◌≡◌, refl, length, take, count_by, arith, sym, subst, ap, ◌∙◌, false}
use Rattle.std.proofs.Math.Seq.{take-length}
use Rattle.std.proofs.lemmas.List.Sums.{count_by_more_no}
use Rattle.node_book.specs.Books.{Told}
use Rattle.node_book.specs.Agreement.{is_export_of}
use Rattle.node_book.proofs.Lists.{no_false}
use Rattle.node_book.proofs.Exports.{none_counted}
use Rattle.node_book.proofs.logs.are_within.Goals as goal

pub returns-then-not-is_within : goal.returns-then-not-is_within
returns-then-not-is_within c =
    let x = c.one-item in (
      (λ t. no_false t),
      (λ none. c.if-not-is_within.ensures.1 (λ period ge.
          subst (λ (t : Told). is_export_of period t.reply ≡ false) (sym x.is)
          (none_counted (λ (t : Told). is_export_of period t.reply) c.args.done.now c.loop-one.one-index x.result c.loop-one-test.true (none period ge)))),
    )

pub loop-one-preserved : goal.loop-one-preserved
loop-one-preserved c = λ period ge.
    let x = c.one-item in
    count_by_more_no (λ (t : Told). is_export_of period t.reply) c.args.done.now c.loop-one.one-index x.result c.loop-one-test.true
    (subst (λ (t : Told). is_export_of period t.reply ≡ false) x.is (c.if-not-is_within.ensures.0 refl period ge))
    ∙ c.loop-one.invariant period ge

pub returns : goal.returns
returns c =
    let over = c.loop-one-test.false in
    let within = c.loop-one.auto.one-index-end in
    let end : c.loop-one.one-index ≡ length c.args.done.now = omega (arith, over, within) in (
      (λ t period ge.
          ap (count_by (λ (t : Told). is_export_of period t.reply)) (sym (ap (λ k. take k c.args.done.now) end ∙ take-length c.args.done.now)) ∙ c.loop-one.invariant period ge),
      (λ q. refl),
    )
