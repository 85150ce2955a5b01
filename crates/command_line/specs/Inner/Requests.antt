-- What an error of `clap` asks for.
use Rattle.std.specs.Prelude.{◌≡◌}
use Rattle.clap.specs.declared.error.kind.ErrorKind.{ErrorKind}
use Rattle.clap.specs.declared.error.kind.ErrorKind.TheVariants as kind
use Rattle.command_line.specs.declared.commands.Command.{Command}
use Rattle.command_line.specs.declared.commands.Command.TheVariants.{Help, Version}

abbrev pub IsRequestFor : Command → ErrorKind → Type 0
IsRequestFor Help k = k ≡ kind.DisplayHelp
IsRequestFor Version k = k ≡ kind.DisplayVersion
IsRequestFor command k = ⊥
