use Rattle.std.proofs.Common.{rules, sym}
use Rattle.program_input.specs.declared.faults.PlayFault.TheVariants.{Schedule}
use Rattle.batch_player.proofs.RatedLaws.{at_period, longer_known}
use Rattle.batch_player.proofs.rate.rate_text.Goals as goal

pub returns-in_err-input-clause-section : goal.returns-in_err-input-clause-section
returns-in_err-input-clause-section g c = λ fault is.
    let known = g.R.Source.remaining c.args.reader.now in
    let told = c.in_err-input.ensures.section fault (search rules) in
    let same = told.0 in
    (λ memory. absurd (cc), at_period known c.args.period (Schedule fault) (longer_known known fault told.1 (sym told.0)))
