-- Where an event's lines stand in the text, and what is kept of it there.
use Rattle.std.proofs.Common.{◌≡◌, ℕ, ◌+◌, ◌-◌, ◌≤◌, List, ◌++◌, length, drop, take, Ok, sym, ap, ap₂, subst, ◌∙◌, arith, append_assoc, codes}
use Rattle.std.proofs.Math.Seq.{drop-append_seam, take-append_seam}
use Rattle.std.proofs.lemmas.List.{append-nil, drop-drop, length-append, length-drop}
use Rattle.metering_model.specs.BatchReading.{lines_in}
use Rattle.metering_model.specs.Schedule as model
use Rattle.metering_model.specs.Schedule.{planned_text}
use Rattle.metering_model.specs.Transcript.{line, with_number}
use Rattle.input_sections.specs.Sections.{Unread}
use Rattle.schedule_reader.specs.declared.events.Planned.{Planned}
use Rattle.schedule_reader.specs.declared.events.Planned.TheVariants.{Journal, Deliver, Start, Restart, Export, Keep, Revive}
use Rattle.schedule_reader.specs.Events.{EndsAt, HasWholeLines, lines_of, planned_of}
use Rattle.schedule_reader.specs.Schedules.{event_in}
use Rattle.schedule_reader.proofs.EventForms.{event_read}

-- the text of an event ends with the lines that are lent for it
pub ends_with_lines : (e : Planned) → HasWholeLines e → (head : List ℕ) × (planned_text (planned_of e) ≡ head ++ lines_of e)
ends_with_lines (Journal text) whole =
    let head = line (with_number (codes "journal ") (length (lines_in text.now).lines)) in
    (head, ap (λ t. head ++ t) whole)
ends_with_lines (Deliver packet node) whole = (planned_text (model.PlansDelivery packet node), sym (append-nil _))
ends_with_lines (Start node) whole = (planned_text (model.PlansStart node), sym (append-nil _))
ends_with_lines (Restart node) whole = (planned_text (model.PlansRestart node), sym (append-nil _))
ends_with_lines (Export node period) whole = (planned_text (model.PlansExport node period), sym (append-nil _))
ends_with_lines (Keep node) whole = (planned_text (model.PlansKeep node), sym (append-nil _))
ends_with_lines (Revive node text) whole =
    let head = line (with_number (with_number (codes "revive ") node ++ codes " ") (length (lines_in text.now).lines)) in
    (head, ap (λ t. head ++ t) whole)

-- the lines that stand before a place of the text end there
ends_at : (text head lines : List ℕ) (from to : ℕ) → from ≤ length text → to ≤ length text → drop from text ≡ (head ++ lines) ++ drop to text
    → (from ≤ to) × EndsAt text to lines
ends_at text head lines from to here there is =
    let long : to ≡ from + length head + length lines =
    omega (arith, here, there, ap length is, length-append (head ++ lines) (drop to text), length-append head lines, length-drop from text, length-drop to text) in
    let at : ℕ = to - length lines in
    let place : at ≡ from + length head = omega (arith, long) in
    let rest : drop at text ≡ lines ++ drop to text =
    ap (λ n. drop n text) place ∙ sym (drop-drop (length head) from text)
    ∙ ap (drop (length head)) (is ∙ append_assoc head lines (drop to text)) ∙ drop-append_seam head (lines ++ drop to text) in
    let many : to - at ≡ length lines = omega (arith, long) in (
      omega (arith, long),
      record {
        room = omega (arith, long);
        within = there;
        are = ap₂ take many rest ∙ take-append_seam lines (drop to text);
      },
    )

-- the lines of an event that was read end where what is left behind it begins
pub event_ends : (text : List ℕ) (u v : Unread) (e : Planned) (end : ℕ) → end ≡ v.from → u.text ≡ text → u.from ≤ length text
    → v.text ≡ u.text → v.from ≤ length v.text → HasWholeLines e → event_in u ≡ Ok (planned_of e, v)
    → (u.from ≤ v.from) × EndsAt text end (lines_of e)
event_ends text u v e end place same here next there whole is =
    let front = ends_with_lines e whole in
    let all : v.text ≡ text = next ∙ same in
    let ends = ends_at text front.0 (lines_of e) u.from v.from here (subst (λ t. v.from ≤ length t) all there)
    (ap (drop u.from) (sym same) ∙ (event_read u (planned_of e, v) is).0 ∙ ap₂ (λ a t. a ++ drop v.from t) front.1 all) in
    (ends.0, subst (λ n. EndsAt text n (lines_of e)) (sym place) ends.1)
