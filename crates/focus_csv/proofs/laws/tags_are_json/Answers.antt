use Rattle.std.proofs.lemmas.Bool.{and_parts}
use Rattle.record_view.proofs.TagsHold.{tags_hold}
use Rattle.focus_csv.proofs.TagJson.{tags_read, tags_written}
use Rattle.focus_csv.proofs.laws.tags_are_json.Goals as goal

pub returns-clause-written : goal.returns-clause-written
returns-clause-written c = λ ts texts. tags_written ts texts

pub returns-clause-read : goal.returns-clause-read
returns-clause-read c = λ ts texts rise. tags_read ts texts rise

pub returns-clause-field : goal.returns-clause-field
returns-clause-field c = λ row.
    let hold = and_parts _ _ (tags_hold row.tags) in
    (tags_written _ hold.0, tags_read _ hold.0 hold.1)
