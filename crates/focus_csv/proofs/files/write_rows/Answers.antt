-- The header line is what a file begins with.
use Rattle.std.proofs.Common.{◌≡◌, [], ◌++◌, rules}
use Rattle.focus_csv.proofs.FileParts.{begun_file}
use Rattle.focus_csv.proofs.files.write_rows.Goals as goal

pub write_behind-result-requires : goal.write_behind-result-requires
write_behind-result-requires g c =
    let begun : c.extend_from_slice.new.self.items ≡ [] ++ c.header_text.result.now = search rules in
    begun_file _ _ c.args.batches.now begun c.header_text.ensures
