-- A byte is found exactly where the text has one.
use Rattle.std.proofs.Common.{is_some, ap, ◌∙◌}
use Rattle.std.specs.Prelude.{◌||◌, ◌==◌}
use Rattle.byte_text.proofs.FirstPlace.{first_byte}
use Rattle.record_view.proofs.PartLaws.{found_any}
use Rattle.focus_csv.proofs.tags.is_odd.Goals as goal

pub returns : goal.returns
returns c =
    let text = c.args.text.now in
    c.is_some.ensures ∙ ap is_some (first_byte (λ x. (x == 34) || (x == 92)) text c.memchr2.result c.memchr2.ensures) ∙ found_any (λ x. (x == 34) || (x == 92)) text
