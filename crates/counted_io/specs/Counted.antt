-- What a clause reads of a `Counted`.
use Rattle.std.specs.Prelude.{ℕ}
use Rattle.counted_io.specs.declared.counting.Counted.{Counted}

-- the writer or reader inside
abbrev pub inner_of : {T : Type 0} → Counted T → T
inner_of counted = counted.inner

-- how many calls failed
abbrev pub failures_of : {T : Type 0} → Counted T → ℕ
failures_of counted = counted.failed
