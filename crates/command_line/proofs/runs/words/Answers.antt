use Rattle.std.proofs.Common.{◌∙◌, ap, map, string_bytes}
use Rattle.std.specs.Iterator.Adapters.{skip_source}
use Rattle.std.specs.Vec.Iter.{into_iter_items, into_iter_len}
use Rattle.std.proofs.lemmas.Iterator.{items_from_collect}
use Rattle.std.proofs.lemmas.Iterator.Adapters.{YieldsList-from_skip, YieldsList-from_vec}
use Rattle.command_line.proofs.runs.words.Goals as goal

pub returns-in-Ok-collect-clause-given : goal.returns-in-Ok-collect-clause-given
returns-in-Ok-collect-clause-given c =
    let all = c.in-Ok.args in
    let source = c.skip.ensures.source in
    let yields = YieldsList-from_vec {s = skip_source c.skip.result} (into_iter_items all) (ap into_iter_items source) (ap into_iter_len source ∙ all.rest.ok.0) in
    let got = items_from_collect c.collect.result c.collect.ensures.ran (YieldsList-from_skip 1 yields c.skip.ensures.count) in
    let words = rw c.in-Ok-collect.is at got in
    rw c.in-Ok.is (ap (map string_bytes) words)
