-- Fields of a line that are too many or too few.
use Rattle.std.proofs.Common.{◌≡◌, ◌≢◌, ℕ, ◌≤◌, List, [], ◌∷◌, length, Some, None, Ok, refl, ap, ap₂, ◌∙◌, arith}
use Rattle.std.specs.Prelude.{◌==◌}
use Rattle.std.specs.Option.{option_map}
use Rattle.std.proofs.lemmas.List.Splits.{length-slice_split}
use Rattle.std.specs.Result.{result_ok}
use Rattle.std.proofs.lemmas.Bool.{eq-eqb, eqb-true, false_from_ne_true}
use Rattle.metering_model.specs.Batch.{Batch}
use Rattle.metering_model.specs.BatchReading.{batch_in, fields_in, whole_in}
use Rattle.metering_model.specs.World.{Packet, CarriesBatch}
use Rattle.packet_text.specs.PacketText.{◌>>=◌, GroupPacket, batch_packet_in, holds, lines_of_batch, prepare_in, sent_vote_in, some_vote_in}
use Rattle.packet_text.proofs.OptionSteps.{step_iff, test_iff}
use Rattle.packet_text.proofs.SentNumbers.{vote_goes_on}
use Rattle.packet_text.specs.declared.reading.Unread.{Unread}
use Rattle.packet_text.specs.declared.reading.Unread.TheVariants.{NoPacket, NoMemory}
use Rattle.packet_text.specs.Inner.Unread.{IfNoPacket}

-- a text has a field, if an empty one
pub some_field : (t : List ℕ) → 1 ≤ length (fields_in t)
some_field t = let count = length-slice_split (λ (c : ℕ). c == 124) t in omega (arith, count)

-- nothing stands behind how many lines a batch has
lines_alone_by : (f : List ℕ) (fs : List (List ℕ)) (below : List ℕ) → 1 ≤ length fs → batch_packet_in (f ∷ fs) below ≡ None
lines_alone_by f [] below some = absurd (omega (arith, some))
lines_alone_by f (g ∷ gs) below some = refl

pub lines_alone : (f t below : List ℕ) → batch_packet_in (f ∷ fields_in t) below ≡ None
lines_alone f t below = lines_alone_by f (fields_in t) below (some_field t)

-- nothing stands behind the ballot of a Prepare
ballot_last_by : (p b : List ℕ) (fs : List (List ℕ)) → 1 ≤ length fs → prepare_in (p ∷ b ∷ fs) ≡ None
ballot_last_by p b [] some = absurd (omega (arith, some))
ballot_last_by p b (g ∷ gs) some = refl

pub ballot_last : (p b t : List ℕ) → prepare_in (p ∷ b ∷ fields_in t) ≡ None
ballot_last p b t = ballot_last_by p b (fields_in t) (some_field t)

-- a vote whose fields these are has a cut
pub vote_has_cut : (b t : List ℕ) → sent_vote_in (b ∷ fields_in t) ≡ option_map Some (some_vote_in b (fields_in t))
vote_has_cut b t = vote_goes_on b (fields_in t) (some_field t)

-- a packet of a group, by its parts
pub of_parts : (r : GroupPacket) (group : List ℕ) (p : Packet) → r.group ≡ group → r.packet ≡ p → r ≡ record { group = group; packet = p }
of_parts r group p g e = ap₂ (λ (name : List ℕ) (sent : Packet). record { group = name; packet = sent }) g e

-- what is said where a text is no packet's may be said otherwise
pub no_packet_so : (why : Unread) (P Q : Type 0) → (P → Q) → IfNoPacket why P → IfNoPacket why Q
no_packet_so NoPacket P Q so p = so p
no_packet_so NoMemory P Q so p = tt

-- no batch stands below its line
pub no_batch_there : (numbers below : List ℕ) (lines : ℕ) → fields_in numbers ≡ numbers ∷ [] → whole_in 1 1_001 numbers ≡ Some lines → result_ok (batch_in below) ≡ None
    → batch_packet_in (fields_in numbers) below ≡ None
no_batch_there numbers below lines fields said none =
    ap (λ fs. batch_packet_in fs below) fields
    ∙ ap (λ o. o >>= λ n. result_ok (batch_in below) >>= λ b. holds (n == lines_of_batch b) >>= λ _. Some (CarriesBatch b)) said
    ∙ ap (λ o. o >>= λ b. holds (lines == lines_of_batch b) >>= λ _. Some (CarriesBatch b)) none

-- a batch below its line that has another number of lines
pub other_batch_there : (numbers below : List ℕ) (lines : ℕ) (b : Batch) → fields_in numbers ≡ numbers ∷ [] → whole_in 1 1_001 numbers ≡ Some lines → batch_in below ≡ Ok b
    → lines ≢ lines_of_batch b → batch_packet_in (fields_in numbers) below ≡ None
other_batch_there numbers below lines b fields said is other =
    ap (λ fs. batch_packet_in fs below) fields
    ∙ ap (λ o. o >>= λ n. result_ok (batch_in below) >>= λ b. holds (n == lines_of_batch b) >>= λ _. Some (CarriesBatch b)) said
    ∙ ap (λ r. result_ok r >>= λ b. holds (lines == lines_of_batch b) >>= λ _. Some (CarriesBatch b)) is
    ∙ ap (λ t. holds t >>= λ _. Some (CarriesBatch b)) (false_from_ne_true (lines == lines_of_batch b) (λ e. other (eqb-true lines (lines_of_batch b) e)))

-- a batch below its line, which has as many lines as are said
pub batch_there : (numbers below : List ℕ) (lines : ℕ) (b : Batch) → fields_in numbers ≡ numbers ∷ [] → whole_in 1 1_001 numbers ≡ Some lines → batch_in below ≡ Ok b
    → lines ≡ lines_of_batch b → batch_packet_in (fields_in numbers) below ≡ Some (CarriesBatch b)
batch_there numbers below lines b fields said is same =
    ap (λ fs. batch_packet_in fs below) fields
    ∙ (step_iff (whole_in 1 1_001 numbers) _ _).1 (
      lines,
      said,
      (step_iff (result_ok (batch_in below)) _ _).1 (b, ap result_ok is, (test_iff (lines == lines_of_batch b) _ _).1 (eq-eqb lines (lines_of_batch b) same, refl)),
    )
