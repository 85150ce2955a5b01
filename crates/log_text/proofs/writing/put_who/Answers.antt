use Rattle.std.proofs.Common.{◌++◌, codes, decimal, sym, ap, ◌∙◌, append-nil}
use Rattle.packet_text.specs.Inner.Pieces.{barred}
use Rattle.packet_text.proofs.Pieces.{puts_number}
use Rattle.log_text.specs.Heads.{who_of}
use Rattle.log_text.specs.LogText.{who_fields}
use Rattle.log_text.proofs.writing.put_who.Goals as goal

pub returns-in-Node : goal.returns-in-Node
returns-in-Node c =
    puts_number c.put_numbered.result _ _ (codes "|node|") _ c.from.result c.put_numbered.ensures.put c.put_numbered.ensures.kept
    (ap (λ n. codes "|node|" ++ decimal n) c.from.ensures ∙ ap (λ t. codes "|node|" ++ t) (sym (append-nil (decimal c.in-Node.node))) ∙ ap (λ w. barred (who_fields (who_of w))) (sym c.in-Node.is))

pub returns-in-Agent : goal.returns-in-Agent
returns-in-Agent c =
    puts_number c.put_numbered-in-Agent.result _ _ (codes "|agent|") _ c.from-in-Agent.result c.put_numbered-in-Agent.ensures.put c.put_numbered-in-Agent.ensures.kept
    (ap (λ n. codes "|agent|" ++ decimal n) c.from-in-Agent.ensures ∙ ap (λ t. codes "|agent|" ++ t) (sym (append-nil (decimal c.in-Agent.agent))) ∙ ap (λ w. barred (who_fields (who_of w))) (sym c.in-Agent.is))
