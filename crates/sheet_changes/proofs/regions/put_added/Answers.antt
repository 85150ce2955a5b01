use Rattle.std.proofs.Common.{sym, ap, ◌∙◌}
use Rattle.sheet_changes.specs.Inner.Compared.{lines_of}
use Rattle.sheet_changes.specs.Regions.{is_added}
use Rattle.sheet_changes.proofs.ListWalks.{all_of, left_out, passed}
use Rattle.sheet_changes.proofs.regions.put_added.Goals as goal
use Rattle.sheet_changes.proofs.regions.put_added.Goals.{then-is_added+in-Ok, else-is_added}

pub loop-region-preserved : goal.loop-region-preserved
loop-region-preserved c =
    let test = is_added c.args.old.now in
    elim c.if-is_added.branch [
      | then-is_added+in-Ok w ↦
          passed test c.args.text.now.items c.loop-region.text.items c.if-is_added.text.items c.args.regions.now c.loop-region.region-index c.region-item.result
          c.loop-region-test.true c.region-item.is c.loop-region.invariant
          (sym c.is_added.ensures ∙ w.if-is_added.true) (ap (λ v. v.items) w.text-is ∙ w.in-Ok.ensures)
      | else-is_added w ↦
          left_out test c.args.text.now.items c.loop-region.text.items c.if-is_added.text.items c.args.regions.now c.loop-region.region-index c.region-item.result
          c.loop-region-test.true c.region-item.is c.loop-region.invariant
          (sym c.is_added.ensures ∙ w.if-is_added.false) (ap (λ v. v.items) w.text-is)
    ]

pub returns : goal.returns
returns c =
    all_of (lines_of (is_added c.args.old.now)) c.args.text.now.items c.loop-region.text.items c.args.regions.now c.loop-region.region-index c.loop-region-test.false c.loop-region.invariant
