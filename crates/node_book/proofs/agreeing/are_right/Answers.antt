use Rattle.std.proofs.Common.{◌≡◌, ℕ, length, map, refl, arith}
use Rattle.std.proofs.lemmas.List.{length-map}
use Rattle.node_book.specs.Books.{Log}
use Rattle.node_book.specs.Kept.{entry_of}
use Rattle.node_book.specs.Logs.{log_of, plan_of}
use Rattle.node_book.specs.Agreement.{IsLogAt}
use Rattle.node_book.proofs.Lists.{item_at, each_more, each_all, no_false}
use Rattle.node_book.proofs.agreeing.are_right.Goals as goal

pub returns-then-not-is_log_at : goal.returns-then-not-is_log_at
returns-then-not-is_log_at c =
    let x = c.index-logs-place in
    let at = item_at log_of c.args.logs.now c.loop-place.place x.result c.loop-place-test.true x.is in
    ((λ t. no_false t), (λ all. c.if-not-is_log_at.ensures.1 (all c.loop-place.place (log_of x.result) at)))

pub loop-place-preserved : goal.loop-place-preserved
loop-place-preserved c =
    let x = c.index-logs-place in
    let at = item_at log_of c.args.logs.now c.loop-place.place x.result c.loop-place-test.true x.is in
    each_more (λ (k : ℕ) (log : Log). IsLogAt (plan_of c.args.plan.now) (map entry_of c.args.history.now) k log) (map log_of c.args.logs.now) c.loop-place.place (log_of x.result) at (c.if-not-is_log_at.ensures.0 refl) c.loop-place.invariant

pub returns : goal.returns
returns c =
    let over = c.loop-place-test.false in
    let within = c.loop-place.auto.place-end in
    let end : c.loop-place.place ≡ length (map log_of c.args.logs.now) = omega (arith, over, within, length-map c.args.logs.now log_of) in
    ((λ t. each_all (λ (k : ℕ) (log : Log). IsLogAt (plan_of c.args.plan.now) (map entry_of c.args.history.now) k log) (map log_of c.args.logs.now) c.loop-place.place end c.loop-place.invariant), (λ all. refl))
