-- Strings of JSON within a quoted field.
use Rattle.std.specs.Prelude.{ℕ, Bool, not, ◌||◌, ◌==◌, List}
use Rattle.std.specs.List.{list_all, list_any}
use Rattle.metering_model.specs.Batch.{Tag}
use Rattle.metering_model.specs.File.{marked}

-- whether JSON puts a backslash before a byte of the text
abbrev pub is_odd : List ℕ → Bool
is_odd t = list_any (λ c. (c == 34) || (c == 92)) t

-- with each quotation mark twice
abbrev pub doubled : List ℕ → List ℕ
doubled t = marked (λ c. c == 34) 34 t

-- no key and no value of these is odd
abbrev pub are_plain : List Tag → Bool
are_plain ts = list_all (λ t. not (is_odd t.key || is_odd t.value)) ts
