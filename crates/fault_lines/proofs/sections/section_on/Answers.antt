use Rattle.fault_lines.proofs.SectionLaws.{no_section, nowhere, section_there}
use Rattle.fault_lines.proofs.sections.section_on.Goals as goal

pub returns-in_default : goal.returns-in_default
returns-in_default c =
    let none = c.in_default.ensures c.args.code in
    nowhere c.args.code c.args.line c.args.text.now c.args.word.now c.args.most none.0 none.1

pub returns-in-Ok : goal.returns-in-Ok
returns-in-Ok c =
    section_there c.args.code c.args.line c.args.text.now c.args.word.now c.args.most _ _ (c.in-Some.ensures c.args.code) c.in-Ok.ensures.section

pub returns-in-Err : goal.returns-in-Err
returns-in-Err c =
    no_section c.args.code c.args.line c.args.text.now c.args.word.now c.args.most _ _ (c.in-Some.ensures c.args.code) c.in-Err.ensures.section
