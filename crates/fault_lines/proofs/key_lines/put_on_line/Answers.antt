use Rattle.std.proofs.Common.{◌+◌, ◌++◌, List, ℕ, filter, not, ap, ◌∙◌}
use Rattle.std.specs.List.{flat_map}
use Rattle.fault_lines.specs.UnknownKeys.{is_key, table_of, told_unknown}
use Rattle.fault_lines.proofs.key_lines.put_on_line.Goals as goal

pub returns : goal.returns
returns c =
    let told = c.args.told.now.items in
    let keys = c.args.keys.now.items in
    let at = c.tables_at-tables.ensures.at in
    let word = c.first_word.ensures in
    let of_line = λ (n : ℕ) (t w : List ℕ). told ++ flat_map (told_unknown n) (filter (is_key t w) keys) in
    let here = table_of c.args.table.now c.args.line.now in
    record {
      told =
          c.in-Ok.ensures.told
          ∙ ap (λ n. of_line (n + 1 + c.args.index) c.tables_at-tables.result.at.now c.first_word.result.now) c.from.ensures
          ∙ ap (λ t. of_line (c.args.opening + 1 + c.args.index) t c.first_word.result.now) at
          ∙ ap (λ w. of_line (c.args.opening + 1 + c.args.index) here w) word;
      left =
          c.in-Ok.ensures.left
          ∙ ap (λ t. filter (λ k. not (is_key t c.first_word.result.now k)) keys) at
          ∙ ap (λ w. filter (λ k. not (is_key here w k)) keys) word;
      below = c.tables_at-tables.ensures.below;
    }
