use Rattle.std.proofs.Common.{[], ◌∷◌, ◌++◌, decimal, map, refl, ap, ◌∙◌, append_assoc}
use Rattle.packet_text.specs.Inner.Pieces.{barred}
use Rattle.packet_text.proofs.Pieces.{cut_put, grown, puts_both, puts_bytes, stayed}
use Rattle.log_text.proofs.writing.put_cut.Goals as goal

pub returns-in_default : goal.returns-in_default
returns-in_default c = stayed c.in_default.ensures.kept

pub returns-in_default-extend_from_slice : goal.returns-in_default-extend_from_slice
returns-in_default-extend_from_slice c = grown _ c.in-Ok.ensures.put (stayed c.in_default-extend_from_slice.ensures.items)

pub returns-in_default-put : goal.returns-in_default-put
returns-in_default-put c = grown _ c.in-Ok.ensures.put (grown _ c.in-Ok-extend_from_slice.ensures.items (stayed c.in_default-put.ensures.kept))

pub returns : goal.returns
returns c =
    let old = c.args.text.now.items in
    let one = c.put_numbered.new.text.items in
    let three = c.put.new.text.items in
    let front = c.args.word.now ++ decimal c.args.number in
    let entries = barred (map decimal c.args.cut.now) in
    let first = c.in-Ok.ensures.put ∙ ap (λ n. old ++ (c.args.word.now ++ decimal n)) c.from.ensures in
    let cut = cut_put one _ three c.args.cut.now c.agents.ensures.within.agents_from c.in-Ok-extend_from_slice.ensures.items c.in-Ok-put.ensures.put in
    puts_both c.extend_from_slice-2.result old three _ (front ++ entries) (10 ∷ []) (cut ∙ ap (λ t. t ++ entries) first ∙ append_assoc old front entries)
    (puts_bytes c.extend_from_slice-2.result three _ (10 ∷ []) _ c.extend_from_slice-2.ensures.items refl)
