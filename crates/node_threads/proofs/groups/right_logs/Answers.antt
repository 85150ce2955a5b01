use Rattle.std.proofs.Common.{map, subst}
use Rattle.node_book.specs.Logs.{log_of, plan_of}
use Rattle.node_book.specs.Agreement.{Agree, FilesAgree}
use Rattle.node_threads.proofs.groups.right_logs.Goals as goal

-- What is not right is not handed out.
pub returns-then-not-agrees-clause-agree : goal.returns-then-not-agrees-clause-agree
returns-then-not-agrees-clause-agree c = tt

pub returns-then-not-agrees-clause-files : goal.returns-then-not-agrees-clause-files
returns-then-not-agrees-clause-files c = tt

pub returns-then-not-agrees-clause-whole : goal.returns-then-not-agrees-clause-whole
returns-then-not-agrees-clause-whole c = tt

pub returns-in-Ok-true-clause-agree : goal.returns-in-Ok-true-clause-agree
returns-in-Ok-true-clause-agree c = subst (λ xs. Agree c.args.book.now (plan_of c.args.plan.now) (map log_of xs)) c.as_slice.ensures.value (c.agrees.ensures.agrees.0 c.if-not-agrees.false)

pub returns-in-Ok-true-clause-files : goal.returns-in-Ok-true-clause-files
returns-in-Ok-true-clause-files c = subst (λ xs. FilesAgree (map log_of xs)) c.as_slice.ensures.value (c.agrees.ensures.files c.if-not-agrees.false)
