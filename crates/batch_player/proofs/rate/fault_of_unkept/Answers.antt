use Rattle.std.proofs.Common.{Err, ap, ◌∙◌}
use Rattle.batch_player.proofs.JournaledLaws.{no_batch}
use Rattle.program_input.proofs.FaultLaws.{same_refusal}
use Rattle.batch_player.proofs.rate.fault_of_unkept.Goals as goal

pub returns-in-Err-clause-refused : goal.returns-in-Err-clause-refused
returns-in-Err-clause-refused c = λ refusal is issuer.
    no_batch c.args.sheet.now issuer c.args.text.now c.in-Err.fault c.in-Err.ensures.err ∙ ap Err (same_refusal {T = Unit {0}} _ refusal (ap Err is))
