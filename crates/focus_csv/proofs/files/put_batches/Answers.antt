use Rattle.std.proofs.Common.{◌≡◌, ◌∙◌, length, rules, arith}
use Rattle.focus_csv.proofs.BeginningLaws.{cut_back}
use Rattle.focus_csv.proofs.files.put_batches.Goals as goal

pub returns-in-Err-clause-kept : goal.returns-in-Err-clause-kept
returns-in-Err-clause-kept c =
    let long : c.len-before.result ≡ length c.args.text.now.items = search (rules, arith) in
    c.truncate.ensures.items ∙ cut_back _ _ _ long c.in-Err.ensures.begins
