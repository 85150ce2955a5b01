-- Which readings start long after those above them. The batches' heads stand on line 25, so their first record is on line 26.
use Rattle.std.proofs.Common.{◌≡◌, ℕ, ◌*◌, List, [], ◌∷◌, ◌++◌, pos, refl, codes}
use Rattle.std.specs.Fmt.{digits}
use Rattle.metering_model.specs.Batch.{Amends, Batch, Reads, Record}
use Rattle.metering_model.specs.Schedule.{lines_text}
use Rattle.metering_model.specs.declared.Kind.TheVariants.{Usage}
use Rattle.metering_model.specs.declared.Version.TheVariants.{B1}
use Rattle.batch_view.specs.Asked.{only_asked}
use Rattle.fault_lines.specs.Ahead.{ahead_in, ahead_of, ahead_of_all}

-- a reading that starts on a day of that number and text
abbrev starts : ℕ → List ℕ → Record
starts day text = Reads (record (only_asked Usage (pos (86_400 * day)) (codes "cpu") []) { start_text = text ++ codes "T00:00:00Z" })

abbrev batch : ℕ → List Record → Batch
batch agent records = record { version = B1; agent = agent; seq = 1; records = records }

abbrev told : List Batch → List Record → List ℕ
told above records = ahead_of above 24 (batch 1 records)

-- 2025-01-10, a day 366 days later, and the next
abbrev first : Record
first = starts 20_098 (codes "2025-01-10")

abbrev after_a_year : Record
after_a_year = starts 20_464 (codes "2026-01-11")

abbrev later_still : Record
later_still = starts 20_465 (codes "2026-01-12")

none_above : told [] (later_still ∷ []) ≡ []
unfolding ahead_of ahead_in digits
none_above = refl

just_366_days : told [] (first ∷ after_a_year ∷ []) ≡ []
unfolding ahead_of ahead_in digits
just_366_days = refl

one_day_more : told [] (first ∷ later_still ∷ []) ≡ lines_text (codes "line 27: ahead 2026-01-12" ∷ [])
unfolding ahead_of ahead_in digits
one_day_more = refl

-- the latest above counts, and not the last
not_the_last : told [] (after_a_year ∷ first ∷ later_still ∷ []) ≡ []
unfolding ahead_of ahead_in digits
not_the_last = refl

-- an amendment is no reading, and has a line
behind_an_amendment : told [] (first ∷ Amends 1 0 (pos 5) ∷ later_still ∷ []) ≡ lines_text (codes "line 28: ahead 2026-01-12" ∷ [])
unfolding ahead_of ahead_in digits
behind_an_amendment = refl

-- what stands behind one that was told is measured by it
told_once : told [] (first ∷ later_still ∷ later_still ∷ []) ≡ lines_text (codes "line 27: ahead 2026-01-12" ∷ [])
unfolding ahead_of ahead_in digits
told_once = refl

behind_another_batch : told (batch 1 (first ∷ []) ∷ []) (later_still ∷ []) ≡ lines_text (codes "line 26: ahead 2026-01-12" ∷ [])
unfolding ahead_of ahead_in digits
behind_another_batch = refl

-- of another agent nothing is asked
of_another_agent : told (batch 2 (first ∷ []) ∷ []) (later_still ∷ []) ≡ []
unfolding ahead_of ahead_in digits
of_another_agent = refl

-- batches of two agents in turn
in_turn : ahead_of_all [] ((2, batch 1 (first ∷ [])) ∷ (4, batch 2 (first ∷ [])) ∷ (6, batch 1 (later_still ∷ [])) ∷ []) ≡ lines_text (codes "line 8: ahead 2026-01-12" ∷ [])
unfolding ahead_of_all ahead_of ahead_in digits
in_turn = refl
