-- The call of `all` tests each pair.
use Rattle.std.proofs.Common.{leb, rules, tests}
use Rattle.std.proofs.lemmas.Bool.Decides.{Decides-at}
use Rattle.std.proofs.lemmas.Iterator.{YieldsList-from_slice, YieldsList-from_zip}
use Rattle.std.proofs.lemmas.Iterator.Search.{all_from_yields_List}
use Rattle.period_cut.proofs.PointwiseOrder.{Decides-pairs}
use Rattle.period_cut.proofs.cuts.Cut.at_least.Goals as goal

pub returns : goal.returns
returns c =
    Decides-at _ _ (all_from_yields_List (λ p. leb p.1 p.0) c.all.new.self _ c.all.result c.all.ensures.ran
    (YieldsList-from_zip (YieldsList-from_slice c.args.self.now cc) (YieldsList-from_slice c.args.other.now cc)) (λ x b q k. search (rules, tests)))
    (Decides-pairs c.args.self.now c.args.other.now c.requires)
