use Rattle.std.proofs.Common.{◌≡◌, ◌++◌, [], rules}
use Rattle.fault_lines.specs.Told.{said_of_fault}
use Rattle.schedule_writer.proofs.KnownLaws.{refused_section}
use Rattle.schedule_writer.proofs.writing.refused_for.Goals as goal

pub returns-in-Ok : goal.returns-in-Ok
returns-in-Ok c =
    let told : c.put_fault.new.told.items ≡ [] ++ said_of_fault c.args.text.now c.args.fault = search rules in
    refused_section c.args.text.now c.put_fault.new.told.items c.args.fault c.refused.result c.in-Ok.ensures.memory told c.refused.ensures
