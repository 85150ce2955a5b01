use Rattle.std.proofs.Common.{◌≡◌, drop}
use Rattle.std.specs.List.{list_all}
use Rattle.metering_model.specs.SheetRules.{is_printable}
use Rattle.sheet_text.proofs.keys.is_printable.Given as goal

abbrev pub invariant-loop-byte : goal.invariant-loop-byte
invariant-loop-byte l = list_all is_printable (drop l.byte-index l.text) ≡ list_all is_printable l.text
