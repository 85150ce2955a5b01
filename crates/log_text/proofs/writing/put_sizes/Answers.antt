use Rattle.std.proofs.Common.{[], ◌∷◌, ◌++◌, decimal, refl, ap, ◌∙◌, subst}
use Rattle.packet_text.specs.Inner.Pieces.{Puts}
use Rattle.packet_text.proofs.Pieces.{grown, puts_both, puts_bytes, stayed}
use Rattle.log_text.proofs.WrittenLines.{sizes_are}
use Rattle.log_text.proofs.writing.put_sizes.Goals as goal

pub returns-in_default : goal.returns-in_default
returns-in_default c = stayed c.in_default.ensures.kept

pub returns-in_default-put_numbered : goal.returns-in_default-put_numbered
returns-in_default-put_numbered c = grown _ c.in-Ok.ensures.put (stayed c.in_default-put_numbered.ensures.kept)

pub returns-in_default-put_numbered-2 : goal.returns-in_default-put_numbered-2
returns-in_default-put_numbered-2 c = grown _ c.in-Ok.ensures.put (grown _ c.in-Ok-put_numbered.ensures.put (stayed c.in_default-put_numbered-2.ensures.kept))

pub returns : goal.returns
returns c =
    let r = c.extend_from_slice.result in
    let new = c.extend_from_slice.new.self.items in
    let v = decimal c.args.head.now.voters in
    let o = decimal c.args.head.now.observers in
    let a = decimal c.args.head.now.agents in
    let voters = c.in-Ok.ensures.put ∙ ap (λ n. c.args.text.now.items ++ 124 ∷ decimal n) (c.from.ensures ∙ c.voters.ensures) in
    let observers = c.in-Ok-put_numbered.ensures.put ∙ ap (λ n. c.put_numbered.new.text.items ++ 124 ∷ decimal n) (c.from-2.ensures ∙ c.observers.ensures) in
    let agents = c.in-Ok-put_numbered-2.ensures.put ∙ ap (λ n. c.put_numbered-2.new.text.items ++ 124 ∷ decimal n) (c.from-3.ensures ∙ c.agents.ensures) in
    let three = puts_both r _ _ new (124 ∷ a) (10 ∷ []) agents (puts_bytes r _ new (10 ∷ []) _ c.extend_from_slice.ensures.items refl) in
    let two = puts_both r _ _ new (124 ∷ o) _ observers three in
    subst (Puts r c.args.text.now.items new) (sizes_are v o a) (puts_both r _ _ new (124 ∷ v) _ voters two)
