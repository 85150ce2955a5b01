-- What is said of an input is what it is refused for.
use Rattle.std.proofs.Common.{◌≡◌, ℕ, All, List, [], ◌∷◌, ◌++◌, map, Result, Ok, Err, refl, sym, ap, ap₂, subst, ◌∙◌, inl, inr, ⊎_elim}
use Rattle.std.proofs.lemmas.List.{append-nil}
use Rattle.std.proofs.lemmas.List.Elements.{All-cons, All-head, All-nil, All-tail}
use Rattle.metering_model.specs.RatedAlone.{world_before}
use Rattle.metering_model.specs.Step.{play, step}
use Rattle.metering_model.specs.Transcript.{line}
use Rattle.metering_model.specs.World.{World, Refused}
use Rattle.metering_model.specs.declared.Refusal.{Refusal}
use Rattle.input_sections.specs.declared.faults.ScheduleFault.{ScheduleFault}
use Rattle.input_sections.specs.declared.faults.ScheduleFault.TheVariants as section
use Rattle.input_sections.specs.RateInput.{RateInput, rate_input_in}
use Rattle.schedule_writer.specs.Checks.{said_of_input, told_of_answer, told_of_batches}
use Rattle.schedule_writer.specs.Inputs.{Offered, batches_of, items_of}
use Rattle.schedule_writer.specs.Refusals.{IsJournaled, IsRefused, IsTaken, answer_to, journal_of, world_behind}
use Rattle.schedule_writer.specs.Inner.SaidLines.{is_line, said_of_refused, section_line}
use Rattle.schedule_writer.proofs.AnswerLaws.{is_answer}
use Rattle.schedule_writer.proofs.CheckLaws.{said_of_read, told_behind}
use Rattle.schedule_writer.proofs.KnownLaws.{no_line}
use Rattle.input_sections.proofs.NeverWants.{NeverWants, a_rating}

-- ---- batches that are journaled in turn

none_told : (input : List ℕ) (w : World) (bs : List Offered) → All IsJournaled (play w (map journal_of bs)).0 → told_of_batches input w bs ≡ []
unfolding answer_to
none_told input w [] all = refl
none_told input w (b ∷ bs) all =
    let next = (step w (journal_of b)).1 in
    let first : IsJournaled (answer_to w b.text) = All-head IsJournaled (answer_to w b.text) (play next (map journal_of bs)).0 all in
    ap₂ (λ t u. t ++ u) (ap (told_of_answer input w b) first.1)
    (none_told input next bs (All-tail IsJournaled (answer_to w b.text) (play next (map journal_of bs)).0 all))

both_none : (a b : List ℕ) → a ++ b ≡ [] → (a ≡ []) × (b ≡ [])
both_none [] b is = (refl, is)
both_none (x ∷ xs) b is = absurd (cc)

all_taken : (input : List ℕ) (w : World) (bs : List Offered) → told_of_batches input w bs ≡ [] → All IsJournaled (play w (map journal_of bs)).0
unfolding answer_to
all_taken input w [] none = All-nil IsJournaled
all_taken input w (b ∷ bs) none =
    let next = (step w (journal_of b)).1 in
    let parts = both_none (told_of_answer input w b (answer_to w b.text)) (told_of_batches input next bs) none in
    All-cons IsJournaled (answer_to w b.text) (play next (map journal_of bs)).0 (⊎_elim (λ journaled. journaled) (λ refused. absurd (never refused parts.0)) (is_answer w b.text))
    (all_taken input next bs parts.1)
  where
    never : (why : Refusal) × (answer_to w b.text ≡ Refused why) → told_of_answer input w b (answer_to w b.text) ≡ [] → ⊥
    never refused none =
        let told = is_line input w b refused.0 in
        no_line told.0 (sym (ap (told_of_answer input w b) refused.1 ∙ told.1) ∙ none)

-- ---- the input

pub said_first : (input told : List ℕ) → IsRefused input told → (rest : List ℕ) × (said_of_input input ≡ line told ++ rest)
said_first input told (inl is) = ([], said_of_refused input is.fault is.refused ∙ (sym is.is_told ∙ sym (append-nil (line told))))
said_first input told (inr is) =
    let given = is.given in
    let w = world_before given.sheet given.issuer in
    let here = world_behind given.sheet given.issuer is.before in
    let rest = told_of_batches input (step here (journal_of is.batch)).1 is.behind in
    let one : told_of_answer input here is.batch (answer_to here is.batch.text) ≡ line told = ap (told_of_answer input here is.batch) is.refused ∙ sym is.is_told in
    let said : said_of_input input ≡ line told ++ rest
    = said_of_read input given is.is_given
    ∙ (ap (told_of_batches input w) is.all
    ∙ (told_behind input w is.before (is.batch ∷ is.behind) ∙ ap₂ (λ t u. t ++ (u ++ rest)) (none_told input w is.before is.taken) one)) in
    (rest, said)

pub said_of_taken : (input : List ℕ) → IsTaken input → said_of_input input ≡ []
said_of_taken input is =
    said_of_read input is.given is.is_given ∙ none_told input (world_before is.given.sheet is.given.issuer) (batches_of (items_of input is.given)) is.taken

pub taken_of_none : (input : List ℕ) → said_of_input input ≡ [] → IsTaken input
taken_of_none input none = by_input (rate_input_in input) refl
  where
    by_input : (r : Result RateInput ScheduleFault) → rate_input_in input ≡ r → IsTaken input
    by_input (Ok given) is =
        record {
          given = given;
          is_given = is;
          taken = all_taken input (world_before given.sheet given.issuer) (batches_of (items_of input given)) (sym (said_of_read input given is) ∙ none);
        }
    by_input (Err (section.Refused code n)) is =
        let told = section_line input code n in absurd (no_line told.0 (sym told.1 ∙ (sym (said_of_refused input (section.Refused code n) is) ∙ none)))
    by_input (Err section.OutOfMemory) is = absurd (subst NeverWants is (a_rating input))
