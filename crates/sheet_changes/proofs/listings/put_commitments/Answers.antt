use Rattle.std.proofs.Common.{List, ℕ, Bor, map}
use Rattle.std.specs.List.{flat_map}
use Rattle.sheet_changes.specs.FieldChanges.{commitment_lines}
use Rattle.sheet_changes.proofs.ListWalks.{all_of, put_next_text}
use Rattle.sheet_changes.proofs.listings.put_commitments.Goals as goal

pub loop-id-preserved : goal.loop-id-preserved
loop-id-preserved c =
    put_next_text (commitment_lines c.args.old.now c.args.new.now) c.args.text.now.items c.loop-id.text.items c.put_commitment.new.text.items c.args.ids.now c.loop-id.id-index _ c.loop-id-test.true
    c.in-Ok.ensures c.loop-id.invariant

pub returns : goal.returns
returns c =
    all_of (λ (ids : List (Bor (List ℕ))). flat_map (commitment_lines c.args.old.now c.args.new.now) (map (λ id. id.now) ids)) c.args.text.now.items c.loop-id.text.items c.args.ids.now
    c.loop-id.id-index c.loop-id-test.false c.loop-id.invariant
