use Rattle.std.proofs.Common.{◌==◌, ◌≡◌, ◌<◌, ℕ, zero, suc, false, ◌++◌, refl, sym, ap, ◌∙◌, arith, append-nil}
use Rattle.std.specs.List.{flat_map}
use Rattle.metering_model.specs.File.{row_text}
use Rattle.focus_csv.proofs.BeginningLaws.{on_err, longer_begins, same_begins}
use Rattle.focus_csv.proofs.files.put_walk.Goals as goal

positive : (n : ℕ) → false ≡ (n == 0) → 0 < n
positive zero some = absurd (cc)
positive (suc n) some = omega arith

pub loop-walk-init : goal.loop-walk-init
loop-walk-init c = record { put = refl; begins = same_begins _ _ refl }

pub loop-walk-smaller : goal.loop-walk-smaller
loop-walk-smaller c = c.in_ok-put_part.ensures.fewer (positive _ c.loop-walk-test.ensures.records)

pub returns-in_err-put_part-clause-begins : goal.returns-in_err-put_part-clause-begins
returns-in_err-put_part-clause-begins c =
    let so = c.loop-walk.invariant in
    on_err c.from_residual.result (longer_begins _ _ _ _ so.begins.1 c.put_part.ensures.begins)

pub loop-walk-preserved : goal.loop-walk-preserved
loop-walk-preserved c =
    let so = c.loop-walk.invariant in
    record {
      put = c.in_ok-put_part.ensures.put ∙ so.put;
      begins = longer_begins _ _ _ _ so.begins.1 c.put_part.ensures.begins;
    }

pub returns-clause-put : goal.returns-clause-put
returns-clause-put c =
    let text = c.loop-walk.text.items in
    sym (append-nil text) ∙ ap (λ rs. text ++ flat_map row_text rs) (sym (c.loop-walk-test.ensures.rows refl)) ∙ c.loop-walk.invariant.put
