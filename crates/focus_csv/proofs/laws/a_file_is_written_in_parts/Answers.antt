use Rattle.focus_csv.proofs.FileParts.{more, all_parts}
use Rattle.focus_csv.proofs.laws.a_file_is_written_in_parts.Goals as goal

pub returns-clause-next : goal.returns-clause-next
returns-clause-next c = λ written part. more written part

pub returns-clause-whole : goal.returns-clause-whole
returns-clause-whole c = λ parts. all_parts parts
