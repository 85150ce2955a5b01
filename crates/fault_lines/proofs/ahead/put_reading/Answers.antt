use Rattle.std.proofs.Common.{◌≡◌, ◌+◌, List, ℕ, [], ◌++◌, Option, Some, None, codes, take, OnOk, sym, ap, subst, ◌∙◌}
use Rattle.metering_model.specs.Batch.{Amends, Reads, Record}
use Rattle.fault_lines.specs.Told.{told_at}
use Rattle.fault_lines.proofs.ahead.put_reading.Goals as goal

abbrev start_in : Option Record → List ℕ
start_in (Some (Reads r)) = r.start_text
start_in (Some (Amends seq index value)) = []
start_in None = []

pub returns-in-Some-Reading : goal.returns-in-Some-Reading
returns-in-Some-Reading c = λ r there.
    let line = c.args.lines + 2 in
    let start = ap start_in (sym (rw c.in-Some-Reading.field-0-is at c.in-Some-Reading.ensures.record) ∙ there) in
    let words = ap (λ n. told_at (line + n) (codes "ahead " ++ take 10 c.in-Some-Reading.reading.start_text.text.now)) c.from.ensures in
    subst (λ (t : List ℕ). OnOk c.put_start.result (c.put_start.new.told.items ≡ c.args.told.now.items ++ t))
    (words ∙ ap (λ t. told_at (line + c.args.index) (codes "ahead " ++ take 10 t)) start) c.put_start.ensures
