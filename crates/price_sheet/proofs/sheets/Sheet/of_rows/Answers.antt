-- The prices, behind them the commitments, and behind these the regions: the first fault is told.
use Rattle.std.proofs.Common.{rules}
use Rattle.price_sheet.specs.SheetReading.{sheet_of_rows}
use Rattle.price_sheet.proofs.sheets.Sheet.of_rows.Goals as goal

pub returns-in_err-prices-clause-refused : goal.returns-in_err-prices-clause-refused
unfolding sheet_of_rows
returns-in_err-prices-clause-refused c = search rules

pub returns-in_err-commitments-clause-refused : goal.returns-in_err-commitments-clause-refused
unfolding sheet_of_rows
returns-in_err-commitments-clause-refused c = search rules

pub returns-clause-taken : goal.returns-clause-taken
unfolding sheet_of_rows
returns-clause-taken c = search rules

pub returns-in_err-regions-clause-refused : goal.returns-in_err-regions-clause-refused
unfolding sheet_of_rows
returns-in_err-regions-clause-refused c = search rules
