-- The texts of the journals, as they are put one behind the other.
use Rattle.std.proofs.Common.{◌≡◌, ℕ, ◌*◌, Result, Ok, Err, OnOk, is_ok, List, [], ◌∷◌, ◌++◌, refl, ap, ◌∙◌, codes}
use Rattle.std.specs.Prelude.{if◌then◌else◌}
use Rattle.metering_model.specs.Dates.{two_digits}
use Rattle.metering_model.specs.Transcript.{with_number}
use Rattle.threads_player.specs.Groups.{hour_text, reading_text}

abbrev pub before_minutes : List ℕ → (month hour : ℕ) → List ℕ
before_minutes t month hour = (((t ++ codes "2025-") ++ two_digits month) ++ codes "-01T") ++ two_digits hour

hour_is : (t : List ℕ) (month hour : ℕ) → before_minutes t month hour ++ codes ":00:00Z" ≡ t ++ hour_text month hour
hour_is [] month hour = refl
hour_is (c ∷ t) month hour = ap (λ s. c ∷ s) (hour_is t month hour)

-- the end is there, or there was no memory for it
pub hour_put : {T E : Type 0} (r : Result T E) (t before after : List ℕ) (month hour : ℕ) → before ≡ before_minutes t month hour
    → after ≡ (if is_ok r then before ++ codes ":00:00Z" else before) → OnOk r (after ≡ t ++ hour_text month hour)
hour_put (Ok x) t before after month hour is put = put ∙ ap (λ s. s ++ codes ":00:00Z") is ∙ hour_is t month hour
hour_put (Err e) t before after month hour is put = tt

abbrev pub reading_begun : List ℕ → (agent seq month : ℕ) → List ℕ
reading_begun t agent seq month =
    ((((((t ++ codes "U|") ++ hour_text month 0) ++ codes "|") ++ hour_text month 1) ++ with_number (codes "|acc-") agent) ++ with_number (codes "|vm-") agent)
    ++ with_number (codes "|cpu|") (3600 * seq)

reading_is : (t : List ℕ) (agent seq month : ℕ) → reading_begun t agent seq month ++ codes "||" ≡ t ++ reading_text agent seq month
reading_is [] agent seq month = refl
reading_is (c ∷ t) agent seq month = ap (λ s. c ∷ s) (reading_is t agent seq month)

pub reading_put : {T E : Type 0} (r : Result T E) (t before after : List ℕ) (agent seq month : ℕ) → before ≡ reading_begun t agent seq month
    → after ≡ (if is_ok r then before ++ codes "||" else before) → OnOk r (after ≡ t ++ reading_text agent seq month)
reading_put (Ok x) t before after agent seq month is put = put ∙ ap (λ s. s ++ codes "||") is ∙ reading_is t agent seq month
reading_put (Err e) t before after agent seq month is put = tt

pub batch_is : (head reading : List ℕ) → ((head ++ 124 ∷ 49 ∷ 10 ∷ []) ++ reading) ++ 10 ∷ [] ≡ ((head ++ codes "|1") ++ 10 ∷ []) ++ (reading ++ 10 ∷ [])
batch_is [] reading = refl
batch_is (c ∷ head) reading = ap (λ s. c ∷ s) (batch_is head reading)
