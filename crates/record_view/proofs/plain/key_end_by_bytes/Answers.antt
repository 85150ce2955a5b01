-- Where none was found, all fail.
use Rattle.std.proofs.Common.{◌==◌, sym}
use Rattle.record_view.proofs.PartLaws.{found_at}
use Rattle.record_view.proofs.PlainTags.{past_all}
use Rattle.record_view.proofs.plain.key_end_by_bytes.Goals as goal

pub returns-in-Some : goal.returns-in-Some
returns-in-Some c = sym (found_at (λ x. x == 61) c.args.text.now c.in-Some.at (sym c.in-Some.ensures)).0

pub returns-in-None : goal.returns-in-None
returns-in-None c = sym (past_all (λ x. x == 61) c.args.text.now (sym c.in-None.ensures))
