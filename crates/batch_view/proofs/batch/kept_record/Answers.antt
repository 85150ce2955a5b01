use Rattle.std.proofs.Common.{◌<◌, length, arith}
use Rattle.std.proofs.lemmas.Option.{slice_get_within}
use Rattle.batch_view.specs.Batches.{batch_of}
use Rattle.batch_view.proofs.EntryLaws.{kept_record_is}
use Rattle.batch_view.proofs.batch.kept_record.Goals as goal

pub record_of_entry-requires : goal.record_of_entry-requires
record_of_entry-requires c =
    let entry = c.requires.entries.each c.args.index c.in-Some.entry.now c.in-Some.ensures in
    (entry.line, entry.at)

pub returns-in-Some-clause-there : goal.returns-in-Some-clause-there
returns-in-Some-clause-there c =
    let within = slice_get_within c.args.entries.now c.args.index c.in-Some.entry.now c.in-Some.ensures in
    let there : c.args.index < length (batch_of c.args.bytes.now).records = omega (arith, within, c.requires.entries.many) in
    search there

pub returns-in-Some-clause-record : goal.returns-in-Some-clause-record
returns-in-Some-clause-record c =
    (kept_record_is c.args.bytes.now c.args.head c.args.entries.now c.args.index c.in-Some.entry.now c.record_of_entry.result c.requires c.in-Some.ensures c.record_of_entry.ensures).got

pub returns-in-Some-clause-lent : goal.returns-in-Some-clause-lent
returns-in-Some-clause-lent c =
    (kept_record_is c.args.bytes.now c.args.head c.args.entries.now c.args.index c.in-Some.entry.now c.record_of_entry.result c.requires c.in-Some.ensures c.record_of_entry.ensures).lent
