use Rattle.std.proofs.Common.{◌≡◌, ℕ, List, ◌++◌, map, refl, sym, ap, ◌∙◌, append_assoc}
use Rattle.std.specs.List.{flat_map}
use Rattle.std.proofs.lemmas.Grind.{flat_map-append}
use Rattle.metering_model.specs.Row.{Row}
use Rattle.metering_model.specs.File.{row_text}
use Rattle.focus_row.specs.Rows.{model_row}
use Rattle.focus_csv.proofs.BeginningLaws.{same_begins}
use Rattle.focus_csv.proofs.files.put_part.Goals as goal

-- the lines of some rows are put, and those of the others are left
some_put : (old new : List ℕ) (now left all : List Row) → new ≡ old ++ flat_map row_text now → now ++ left ≡ all
    → new ++ flat_map row_text left ≡ old ++ flat_map row_text all
some_put old new now left all put are =
    ap (λ t. t ++ flat_map row_text left) put
    ∙ append_assoc old (flat_map row_text now) (flat_map row_text left)
    ∙ ap (λ t. old ++ t) (sym (flat_map-append row_text now left) ∙ ap (flat_map row_text) are)

pub returns-in_err-next_rows-clause-begins : goal.returns-in_err-next_rows-clause-begins
returns-in_err-next_rows-clause-begins c = same_begins _ _ refl

pub returns-clause-put : goal.returns-clause-put
returns-clause-put c =
    let old = c.args.text.now.items in
    let now = map model_row c.next_rows.new.rows.items in
    some_put old _ now c.next_rows.new.self.rows _ c.in_ok-put_lines.ensures.put c.in_ok-next_rows.ensures.rows

pub returns-clause-begins : goal.returns-clause-begins
returns-clause-begins c = (_, c.in_ok-put_lines.ensures.put)
