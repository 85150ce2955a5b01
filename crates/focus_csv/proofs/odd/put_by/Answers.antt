use Rattle.std.proofs.Common.{◌≡◌, ◌∷◌, length, ◌∙◌, rules, arith}
use Rattle.metering_model.specs.File.{quoted}
use Rattle.csv.specs.Writing.{writer_under}
use Rattle.focus_csv.proofs.CsvText.{last_copied}
use Rattle.focus_csv.proofs.odd.put_by.Goals as goal

pub returns-clause-put : goal.returns-clause-put
returns-clause-put c =
    let old = (writer_under c.args.writer.now).items in
    let begins : c.len-from.result ≡ length old = search (rules, arith) in
    let written = c.in_ok-write_next.ensures.written c.requires in
    c.in_ok-extend_from_slice.ensures.items
    ∙ last_copied old (44 ∷ quoted c.args.field.now) _ c.args.text.now.items c.len-from.result begins (search (rules, written))
