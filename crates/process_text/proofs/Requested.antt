-- What is asked, by what was found of a line.
use Rattle.std.proofs.Common.{◌≡◌, ℕ, Bool, true, false, if◌then◌else◌, List, codes, Option, Some, None, refl, sym, ap₂, ◌∙◌}
use Rattle.std.specs.Option.{is_some}
use Rattle.metering_model.specs.BatchReading.{is_same}
use Rattle.process_laws.specs.LocalSteps.{BeginBallot, TellKept}
use Rattle.packet_text.specs.PacketText.{packet_in}
use Rattle.input_sections.specs.Sections.{number_behind}
use Rattle.process_text.specs.Requests.{AsksNode, NodeRequest, export_request, give_request, line_request, most_packet_lines, node_request, packet_request, period_behind, place_behind}

-- a packet is handed over
pub a_packet : (line below : List ℕ) (o : Option ℕ) → o ≡ number_behind (codes "packet ") most_packet_lines line → is_some o ≡ true
    → packet_request (packet_in below) ≡ node_request line below
a_packet line below None is some = absurd (cc)
a_packet line below (Some n) is some = rw (sym is, node_request) refl

-- or none is
no_packet : (line below : List ℕ) (o : Option ℕ) → o ≡ number_behind (codes "packet ") most_packet_lines line → is_some o ≡ false
    → line_request line ≡ node_request line below
no_packet line below None is none = rw (sym is, node_request) refl
no_packet line below (Some n) is none = absurd (cc)

abbrev by_words : (starts keeps : Bool) → Option ℕ → Option (ℕ × ℕ) → NodeRequest
by_words starts keeps period place =
    if starts then AsksNode BeginBallot else (if keeps then AsksNode TellKept else export_request (give_request place) period)

pub asked_by : (line below : List ℕ) (o : Option ℕ) (starts keeps : Bool) (period : Option ℕ) (place : Option (ℕ × ℕ))
    → o ≡ number_behind (codes "packet ") most_packet_lines line → is_some o ≡ false
    → starts ≡ is_same line (codes "start") → keeps ≡ is_same line (codes "keep") → period ≡ period_behind line → place ≡ place_behind line
    → by_words starts keeps period place ≡ node_request line below
asked_by line below o starts keeps period place is none is_start is_keep is_period is_place =
    ap₂ (λ s k. by_words s k period place) is_start is_keep
    ∙ ap₂ (λ p q. by_words (is_same line (codes "start")) (is_same line (codes "keep")) p q) is_period is_place
    ∙ no_packet line below o is none
