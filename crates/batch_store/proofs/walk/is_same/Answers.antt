use Rattle.std.proofs.Common.{◌≡◌, ◌↔◌, IsTrue, ap, rules}
use Rattle.batch_view.specs.Batches.{batch_of}
use Rattle.batch_store.proofs.SameBatches.{same_bytes}
use Rattle.batch_store.proofs.walk.is_same.Goals as goal

pub returns : goal.returns
returns c =
    let x = c.args.one.now in
    let y = c.args.two.now in
    let by_bytes : IsTrue c.eq.result ↔ (x ≡ y) = search rules in
    (λ t. ap batch_of (by_bytes.0 t), λ e. by_bytes.1 (same_bytes x y c.bytes.ensures.batch c.bytes-2.ensures.batch e))
