use Rattle.std.proofs.Common.{◌++◌, codes, ap, subst, ◌∙◌}
use Rattle.packet_text.specs.Inner.Pieces.{Puts, barred}
use Rattle.packet_text.proofs.Pieces.{grown, puts_both, stayed}
use Rattle.log_text.specs.LogText.{who_fields}
use Rattle.log_text.proofs.WrittenLines.{head_is}
use Rattle.log_text.proofs.writing.put_whole_head.Goals as goal

pub returns-in_default : goal.returns-in_default
returns-in_default c = stayed c.in_default.ensures.items

pub returns-in_default-extend_from_slice : goal.returns-in_default-extend_from_slice
returns-in_default-extend_from_slice c = grown _ c.in-Ok.ensures.items (stayed c.in_default-extend_from_slice.ensures.items)

pub returns-in_default-put_who : goal.returns-in_default-put_who
returns-in_default-put_who c = grown _ c.in-Ok.ensures.items (grown _ c.in-Ok-extend_from_slice.ensures.items c.in_default-put_who.ensures)

pub returns : goal.returns
returns c =
    let r = c.put_sizes.result in
    let new = c.put_sizes.new.text.items in
    let h = c.args.head.now in
    let group = c.in-Ok-extend_from_slice.ensures.items ∙ ap (λ t. c.extend_from_slice.new.self.items ++ t) c.group.ensures in
    let who = c.in-Ok-put_who.ensures ∙ ap (λ w. c.extend_from_slice-2.new.self.items ++ barred (who_fields w)) c.who.ensures in
    let named = puts_both r _ _ new h.group _ group (puts_both r _ _ new (barred (who_fields h.who)) _ who c.put_sizes.ensures) in
    subst (Puts r c.args.text.now.items new) (head_is h) (puts_both r _ _ new (codes "G1|") _ c.in-Ok.ensures.items named)
