use Rattle.std.proofs.Common.{◌≡◌, ◌∙◌, length, rules, arith}
use Rattle.focus_csv.proofs.BeginningLaws.{cut_back, longer_begins}
use Rattle.focus_csv.proofs.FileParts.{file_behind}
use Rattle.focus_csv.proofs.files.put_file_in.Goals as goal

pub returns-in-Err-clause-kept : goal.returns-in-Err-clause-kept
returns-in-Err-clause-kept c =
    let long : c.len-before.result ≡ length c.args.text.now.items = search (rules, arith) in
    c.truncate.ensures.items ∙ cut_back _ _ _ long (longer_begins _ _ _ _ c.in_ok-extend_from_slice.ensures.items c.in-Err.ensures.begins)

pub returns-in-Ok-clause-put : goal.returns-in-Ok-clause-put
returns-in-Ok-clause-put c =
    file_behind _ c.header_text.result.now _ _ c.args.batches.now _ c.header_text.ensures c.in_ok-extend_from_slice.ensures.items c.batches.ensures c.in-Ok.ensures.put
