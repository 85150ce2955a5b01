-- Faults of schedules that the other worked texts do not show.
use Rattle.std.proofs.Common.{◌≡◌, ℕ, ◌<◌, false, List, [], ◌∷◌, length, Result, Err, refl, ap, codes, arith}
use Rattle.std.specs.Prelude.{nat_le}
use Rattle.std.proofs.lemmas.Bool.Decides.{nat_tests}
use Rattle.metering_model.specs.FirstFailure.{◌>>=◌, holds_or}
use Rattle.metering_model.specs.Schedule.{lines_text}
use Rattle.input_sections.specs.declared.faults.ScheduleCode.TheVariants.{Nodes, Issuer, TooLong}
use Rattle.input_sections.specs.declared.faults.ScheduleFault.TheVariants.{Refused}
use Rattle.input_sections.specs.Sections.{Unread, whole_of, section_in, issuer_section}
use Rattle.schedule_reader.specs.Schedules.{group_in, head_line, nodes_line, schedule_in}

-- ---- a text that is too long

failed : {A B E : Type 0} (r : Result A E) (f : A → Result B E) (e : E) → r ≡ Err e → (r >>= f) ≡ Err e
failed r f e h = ap (λ s. s >>= f) h

whole_too_long : (text : List ℕ) → 16_777_216 < length text → whole_of text ≡ Err (Refused TooLong 1)
whole_too_long text long =
    let fails : nat_le (length text) 16_777_216 ≡ false = grind (arith, nat_tests) in
    failed _ _ _ (ap (λ b. holds_or b (Refused TooLong 1)) fails)

group_too_long : (text : List ℕ) → 16_777_216 < length text → group_in text ≡ Err (Refused TooLong 1)
unfolding group_in
group_too_long text long = failed (whole_of text) _ _ (whole_too_long text long)

-- whatever stands in it
too_long : (text : List ℕ) → 16_777_216 < length text → schedule_in text ≡ Err (Refused TooLong 1)
unfolding schedule_in
too_long text long = failed (group_in text) _ _ (group_too_long text long)

-- ---- no node

no_node : schedule_in (lines_text (codes "SCHEDULE 1" ∷ codes "nodes 0" ∷ [])) ≡ Err (Refused Nodes 2)
unfolding schedule_in group_in head_line nodes_line
no_node = refl

-- ---- no issuer

-- from line 18 on
abbrev from_eighteen : List (List ℕ) → Unread
from_eighteen ls = record { text = lines_text ls; from = 0; line = 18 }

no_issuer : issuer_section (from_eighteen []) ≡ Err (Refused Issuer 18)
unfolding issuer_section section_in
no_issuer = refl

too_many_issuer_lines : issuer_section (from_eighteen (codes "issuer 101" ∷ codes "any" ∷ [])) ≡ Err (Refused Issuer 18)
unfolding issuer_section section_in
too_many_issuer_lines = refl
