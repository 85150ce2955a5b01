-- What is reported of a run.
use Rattle.std.specs.Prelude.{ℕ, if◌then◌else◌, List, [], ◌∷◌, ◌++◌, Option, Some, None, codes, count_by, length}
use Rattle.std.specs.List.{flat_map, range_with_len}
use Rattle.metering_model.specs.Transcript.{line, line_count, with_number}
use Rattle.node_threads.specs.Words.{Log, Told, file_in, is_export_of}
use Rattle.node_threads.specs.Runs.{Run}

-- what all workers were told, worker by worker
abbrev pub told_in : List Log → List Told
told_in logs = flat_map (λ log. log.told) logs

abbrev pub lines_in : Option (List ℕ) → ℕ
lines_in None = 0
lines_in (Some file) = line_count file

-- how many lines the first file of a period has, and 0 where there is none
abbrev pub lines_of : ℕ → List Told → ℕ
lines_of period [] = 0
lines_of period (t ∷ ts) = if is_export_of period t.reply then lines_in (file_in t.reply) else lines_of period ts

-- how many files of a period there are
abbrev pub files_of : ℕ → List Told → ℕ
files_of period told = count_by (λ t. is_export_of period t.reply) told

abbrev pub period_text : List Told → ℕ → List ℕ
period_text told period =
    line (with_number (codes "period ") period ++ with_number (codes " lines ") (lines_of period told) ++ with_number (codes " files ") (files_of period told))

abbrev pub report_text : Run → List ℕ
report_text run =
    flat_map (period_text (told_in run.logs)) (range_with_len 0 run.plan.periods)
    ++ line (with_number (codes "entries ") (length run.book.history) ++ with_number (codes " receipts ") (length (told_in run.logs)))
