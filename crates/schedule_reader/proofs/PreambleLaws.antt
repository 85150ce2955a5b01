-- A schedule is what stands above its events, and the events.
use Rattle.std.proofs.Common.{◌≡◌, ℕ, List, length, Result, Ok, Err, IsOk, refl, sym, ap, ◌∙◌, subst}
use Rattle.metering_model.specs.FirstFailure.{◌>>=◌}
use Rattle.metering_model.specs.Schedule.{Planned}
use Rattle.metering_model.specs.Sheet as model
use Rattle.metering_model.proofs.StepLaws.{step_ok}
use Rattle.input_sections.specs.declared.faults.ScheduleFault.{ScheduleFault}
use Rattle.input_sections.specs.Sections.{Unread, sheet_section, issuer_section}
use Rattle.schedule_reader.specs.Schedules.{Preamble, ReadSchedule, events_in, group_in, preamble_in, schedule_in}

in_turn : {A B C E : Type 0} (r : Result A E) (f : A → Result B E) (g : B → Result C E) → ((r >>= f) >>= g) ≡ (r >>= λ x. f x >>= g)
in_turn (Ok x) f g = refl
in_turn (Err e) f g = refl

alike : {A B E : Type 0} (r : Result A E) (f g : A → Result B E) → ((x : A) → f x ≡ g x) → (r >>= f) ≡ (r >>= g)
alike (Ok x) f g same = same x
alike (Err e) f g same = refl

abbrev pub with_events : Preamble → List Planned → ReadSchedule
with_events p events = record { voters = p.voters; observers = p.observers; agents = p.agents; sheet = p.sheet; issuer = p.issuer; events = events }

abbrev pub behind : List ℕ → Preamble → Result ReadSchedule ScheduleFault
behind text p = events_in (length text) p.rest >>= λ (events : List Planned). Ok (with_events p events)

abbrev preamble_of : ℕ × ℕ × ℕ × Unread → model.Sheet × Unread → model.Issuer × Unread → Preamble
preamble_of group sheet issuer = record { voters = group.0; observers = group.1; agents = group.2; sheet = sheet.0; issuer = issuer.0; rest = issuer.1 }

pub by_preamble : (text : List ℕ) → schedule_in text ≡ (preamble_in text >>= behind text)
unfolding schedule_in preamble_in
by_preamble text =
    sym (in_turn (group_in text) _ (behind text)
    ∙ alike (group_in text) _ _ (λ (group : ℕ × ℕ × ℕ × Unread). in_turn (sheet_section group.3) _ (behind text)
    ∙ alike (sheet_section group.3) _ _ (λ (sheet : model.Sheet × Unread). in_turn (issuer_section sheet.1) (λ (issuer : model.Issuer × Unread). Ok (preamble_of group sheet issuer)) (behind text))))

pub taken_behind : (text : List ℕ) (p : Preamble) (events : List Planned) → preamble_in text ≡ Ok p → events_in (length text) p.rest ≡ Ok events
    → schedule_in text ≡ Ok (with_events p events)
taken_behind text p events above is =
    by_preamble text ∙ ap (λ r. r >>= behind text) above ∙ ap (λ r. r >>= λ (es : List Planned). Ok (with_events p es)) is

pub refused_behind : (text : List ℕ) (p : Preamble) (fault : ScheduleFault) → preamble_in text ≡ Ok p → events_in (length text) p.rest ≡ Err fault
    → schedule_in text ≡ Err fault
refused_behind text p fault above is =
    by_preamble text ∙ ap (λ r. r >>= behind text) above ∙ ap (λ r. r >>= λ (es : List Planned). Ok (with_events p es)) is

pub refused_above : (text : List ℕ) (fault : ScheduleFault) → preamble_in text ≡ Err fault → schedule_in text ≡ Err fault
refused_above text fault above = by_preamble text ∙ ap (λ r. r >>= behind text) above

-- what stands above the events begins with the group
pub group_above : (text : List ℕ) (p : Preamble) → preamble_in text ≡ Ok p → IsOk (group_in text)
unfolding preamble_in
group_above text p is =
    let group = step_ok (group_in text) _ p is in
    subst IsOk (sym group.1) refl
