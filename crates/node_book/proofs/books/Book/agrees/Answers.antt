use Rattle.std.proofs.Common.{map, refl}
use Rattle.node_book.specs.Books.{node_total}
use Rattle.node_book.specs.Kept.{entry_of}
use Rattle.node_book.specs.Logs.{log_of, plan_of}
use Rattle.node_book.proofs.Lists.{no_false}
use Rattle.node_book.proofs.Parts.{texts_in, count_of_logs, agree_of, right_of, allowed_of}
use Rattle.node_book.proofs.Files.{files_agree}
use Rattle.node_book.proofs.books.Book.agrees.Goals as goal

pub returns-then-not-is_one_each-clause-agrees : goal.returns-then-not-is_one_each-clause-agrees
returns-then-not-is_one_each-clause-agrees c =
    ((λ t. no_false t), (λ a. c.if-not-is_one_each.ensures.1 ((count_of_logs log_of texts_in c.args.logs.now c.args.plan.now.journals.items (node_total (plan_of c.args.plan.now))).0 a.one_each)))

pub returns-then-not-are_right-clause-agrees : goal.returns-then-not-are_right-clause-agrees
returns-then-not-are_right-clause-agrees c = (
  (λ t. no_false t),
  (λ a. c.if-not-are_right.ensures.1 (right_of c.args.self.now (plan_of c.args.plan.now) (map log_of c.args.logs.now) (map entry_of c.history-history.result.now) c.history-history.ensures a)),
)

pub returns-clause-agrees : goal.returns-clause-agrees
returns-clause-agrees c = (
  (λ t. agree_of c.args.self.now (plan_of c.args.plan.now) (map log_of c.args.logs.now) (map entry_of c.history-history.result.now) c.history-history.ensures
      (c.if-not-is_opened_for.ensures.0 refl)
      ((count_of_logs log_of texts_in c.args.logs.now c.args.plan.now.journals.items (node_total (plan_of c.args.plan.now))).1 (c.if-not-is_one_each.ensures.0 refl))
      (c.if-not-are_right.ensures.0 refl) (c.are_allowed.ensures.0 t)),
  (λ a. c.are_allowed.ensures.1 (allowed_of c.args.self.now (plan_of c.args.plan.now) (map log_of c.args.logs.now) (map entry_of c.history-history.result.now) c.history-history.ensures a)),
)

pub returns-clause-files : goal.returns-clause-files
returns-clause-files c = λ t.
    files_agree c.args.self.now (plan_of c.args.plan.now) (map log_of c.args.logs.now)
    (agree_of c.args.self.now (plan_of c.args.plan.now) (map log_of c.args.logs.now) (map entry_of c.history-history.result.now) c.history-history.ensures
    (c.if-not-is_opened_for.ensures.0 refl)
    ((count_of_logs log_of texts_in c.args.logs.now c.args.plan.now.journals.items (node_total (plan_of c.args.plan.now))).1 (c.if-not-is_one_each.ensures.0 refl))
    (c.if-not-are_right.ensures.0 refl) (c.are_allowed.ensures.0 t))
    c.legal.ensures.headline
