use Rattle.process_laws.proofs.AgreedExports.{files_are_the_same, each_batch_once, next_begins_there, batches_are_journaled}
use Rattle.process_laws.proofs.laws.what_processes_export_agrees.Goals as goal

pub returns-clause-files : goal.returns-clause-files
returns-clause-files c = files_are_the_same

pub returns-clause-once : goal.returns-clause-once
returns-clause-once c = each_batch_once

pub returns-clause-follows : goal.returns-clause-follows
returns-clause-follows c = next_begins_there

pub returns-clause-batches : goal.returns-clause-batches
returns-clause-batches c = batches_are_journaled
