use Rattle.std.proofs.Common.{sym}
use Rattle.fault_lines.proofs.TomlStopLaws.{no_toml, toml_there}
use Rattle.fault_lines.proofs.toml_stops.is_toml.Goals as goal

pub returns-in-Ok : goal.returns-in-Ok
returns-in-Ok c = let is = c.in-Ok.ensures.ok in sym (toml_there c.args.text.now _ is.0 is.1)

pub returns : goal.returns
returns c = sym (no_toml c.args.text.now (c.in-Err.ensures.refused (λ is. let yes = c.is_memory.ensures.1 is in let no = c.if-is_memory.false in cc)))
