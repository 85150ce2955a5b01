use Rattle.std.proofs.Common.{◌≡◌, ◌+◌, ◌-◌, sym, subst, rules}
use Rattle.batch_store.specs.Inner.Amenders.{pair_of, IsLastListed}
use Rattle.batch_store.proofs.AmenderLemmas.{last_listed}
use Rattle.batch_store.proofs.amenders.last_listed.Goals as goal

pub returns-in-Some : goal.returns-in-Some
returns-in-Some c =
    let low : c.new.result.start ≡ pair_of c.args.seq (c.args.seq + 1) = search rules in
    let high : c.new.result.end ≡ pair_of c.args.seq c.args.upto = search rules in
    let part = c.range-between.ensures.in_range (search rules) in
    let is = part.3 c.in-Some.pair.now _ c.in-Some.ensures.steps in
    let greater = part.4 c.in-Some.pair.now _ c.in-Some.ensures.steps in
    subst (λ first. IsLastListed c.args.seq c.args.upto c.args.pairs.now.keys (c.in-Some.pair.now - first)) (sym c.pair_of-in-Some.ensures)
    (last_listed c.args.seq c.args.upto c.new.result.start c.new.result.end c.in-Some.pair.now c.args.pairs.now.keys low high is.0 is.1 greater)
