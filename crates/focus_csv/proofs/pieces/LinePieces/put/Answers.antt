-- The pieces are the line.
use Rattle.std.proofs.Common.{◌≡◌, ◌++◌, ◌∙◌, ap, length, rules, arith}
use Rattle.std.specs.List.{flat_map}
use Rattle.focus_csv.proofs.BeginningLaws.{cut_back}
use Rattle.focus_csv.proofs.LineLaws.{line_of_all}
use Rattle.focus_csv.proofs.pieces.LinePieces.put.Goals as goal

pub returns-in-Ok-clause-put : goal.returns-in-Ok-clause-put
returns-in-Ok-clause-put c = λ r are.
    c.in-Ok.ensures.put ∙ ap (λ t. c.args.text.now.items ++ t) (ap (flat_map (λ t. t)) c.all.ensures ∙ line_of_all c.args.self.now r are)

pub returns-in-Err-clause-kept : goal.returns-in-Err-clause-kept
returns-in-Err-clause-kept c =
    let long : c.len-begin.result ≡ length c.args.text.now.items = search (rules, arith) in
    c.truncate.ensures.items ∙ cut_back _ _ _ long c.in-Err.ensures.begins
