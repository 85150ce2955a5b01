use Rattle.std.proofs.Common.{◌≡◌, ◌∙◌, false, sym, subst, inl, inr, ⊎_elim, refl, arith}
use Rattle.std.proofs.lemmas.Bool.{cases_lt}
use Rattle.metering_model.specs.Front.{is_due}
use Rattle.batch_view.specs.Batches.{batch_of}
use Rattle.schedule_writer.proofs.judging.later_start.Goals as goal

pub loop-period-preserved : goal.loop-period-preserved
loop-period-preserved c = λ p up below.
    ⊎_elim (λ less. c.loop-period.invariant p up less)
    (λ at. subst (λ q. is_due c.args.sheet.now.base q (batch_of c.args.batch.now) ≡ false) (omega arith) (sym c.is_due.ensures ∙ c.if-is_due.false))
    (cases_lt p c.loop-period.period)

pub returns-then-is_due : goal.returns-then-is_due
returns-then-is_due c =
    record {
      later = omega arith;
      within = omega arith;
      none_behind = inr (sym c.is_due.ensures ∙ c.if-is_due.true);
      not_before = c.loop-period.invariant;
    }

pub returns : goal.returns
returns c =
    record { later = omega arith; within = omega arith; none_behind = inl refl; not_before = λ p up below. c.loop-period.invariant p up (omega arith) }
