use Rattle.std.proofs.Common.{arith, ap, length, length-append, decimal, rules}
use Rattle.metering_model.specs.NumberText.{point_text, decimals_of}
use Rattle.fx_money.proofs.Decimals.{length-fraction_le}
use Rattle.fx_money.proofs.Whole.{length-whole_le}
use Rattle.fx_money.proofs.writing.append.Goals as goal

pub prepend_whole-requires : goal.prepend_whole-requires
prepend_whole-requires c =
    let fraction = point_text (decimals_of c.args.places c.args.decimals) in
    omega (
      arith,
      ap length c.prepend_fraction.ensures,
      length-append fraction c.new-number.result,
      ap length c.new-number.ensures,
      length-fraction_le c.args.places c.args.decimals,
    )

pub prepend-requires-clause-room : goal.prepend-requires-clause-room
prepend-requires-clause-room c =
    let fraction = point_text (decimals_of c.args.places c.args.decimals) in
    omega (
      arith,
      ap length c.prepend_whole.ensures,
      length-append (decimal c.args.whole) c.prepend_fraction.new.self,
      length-whole_le c.args.whole (omega arith),
      ap length c.prepend_fraction.ensures,
      length-append fraction c.new-number.result,
      ap length c.new-number.ensures,
      length-fraction_le c.args.places c.args.decimals,
    )

pub returns-clause-ok : goal.returns-clause-ok
returns-clause-ok c = search rules

pub returns-clause-kept : goal.returns-clause-kept
returns-clause-kept c = search rules
