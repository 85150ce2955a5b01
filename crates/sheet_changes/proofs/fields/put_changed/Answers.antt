use Rattle.std.proofs.Common.{sym, ◌∙◌}
use Rattle.sheet_changes.proofs.FieldLines.{line_put}
use Rattle.sheet_changes.proofs.ListWalks.{on_put}
use Rattle.sheet_changes.proofs.fields.put_changed.Goals as goal

pub returns : goal.returns
returns c =
    let other = sym c.is_same.ensures ∙ c.if-is_same.false in
    let put = c.extend_from_slice-2 in
    on_put put.result _ _ _ put.ensures.items (λ is.
    line_put c.args.named.now c.args.key.now c.args.old.now c.args.new.now c.args.text.now.items c.put_named.new.text.items c.put_named-2.new.text.items c.extend_from_slice.new.self.items put.new.self.items other
    c.in-Ok.ensures c.in-Ok-put_named.ensures c.in-Ok-extend_from_slice.ensures.items is)
