-- What `file_text` answers, from what its parts did.
use Rattle.std.proofs.Common.{◌≡◌, ◌∙◌, ℕ, ◌<◌, ◌≤◌, true, List, [], ◌++◌, Option, IfSome, Err, refl, sym, ap, subst, arith, append-nil}
use Rattle.std.specs.Io.KnownBytes.{Appends, IsAtEnd}
use Rattle.std.proofs.lemmas.List.{length-append, take-append-le}
use Rattle.counted_io.specs.Writing.{AppendsPrefix, AppendsSome}
use Rattle.counted_io.proofs.Prefixes.{prefix_within}
use Rattle.metering_model.specs.Batch.{lacks}
use Rattle.metering_model.specs.Schedule.{lines_text}
use Rattle.line_source.specs.Reading.{IsEnded, Takes}
use Rattle.line_source.proofs.Taking.{takes_on}
use Rattle.transcript_laws.specs.FirstFiles.{TornFile, first_file, part_of}
use Rattle.period_file.specs.Files.{AppendsPrefixOf, AppendsLess, AppendsPart, IsFileOf, answer_of, file_in}
use Rattle.period_file.specs.declared.faults.FileFault.TheVariants as fault
use Rattle.period_file.specs.Inner.Reading.{EndsUntold, Finds, Copies, Stops}
use Rattle.period_file.proofs.Seen.{all_of, prefix_seen, if_known, input_fits, input_of, input_seen, short_answer, torn_seen, whole_seen}

-- all was read, and no line stands above a file
pub none_answer : {period : ℕ} {known left : Option (List ℕ)} {read : ℕ} → EndsUntold period [] 0 read known left → read ≤ 4_294_967_296 → IfSome known (λ input. file_in period input ≡ Err fault.NoFile)
none_answer {period} {known} {left} {read} ends short =
    let all : Takes [] ends.came 0 read known left [] = record { came = ends.came; consumed = ends.consumed; joined = refl; counted = ends.counted } in
    let it = input_of all in
    if_known known it.input it.is_input (λ input. file_in period input ≡ Err fault.NoFile)
    (short_answer period it.input (input_fits all ends.end short) ∙ ap answer_of (ap (first_file period) (all_of all ends.end) ∙ ends.none))

some_longer : (old new : Option (List ℕ)) (xs ys : List ℕ) → AppendsSome old new xs → AppendsSome old new (xs ++ ys)
some_longer old new xs ys it =
    let few = it.1 in
    (it.0, omega (arith, few, length-append xs ys), subst (Appends old new) (sym (take-append-le it.0 xs ys few)) it.2)

-- what was read is over
at_end : (rest behind : List ℕ) → behind ≡ [] → lacks 10 rest ≡ true → lacks 10 (rest ++ behind) ≡ true
at_end rest behind over ends = ap (λ t. lacks 10 (rest ++ t)) over ∙ ap (lacks 10) (append-nil rest) ∙ ends

module _ {period count : ℕ} {known mid : Option (List ℕ)} {ahead : List ℕ} {read : ℕ} (found : Finds period count [] ahead 0 read known mid) where
  -- copying stopped
  stop_prefix : {Appended : Option (List ℕ) → Option (List ℕ) → List ℕ → Type 0} {left : Option (List ℕ)} {read' : ℕ} {old new : Option (List ℕ)} (stops : Stops Appended count ahead read read' mid left old new)
      → (more : List ℕ) × (part_of (first_file period (input_of (takes_on found.takes stops.takes)).input) ≡ lines_text stops.lines ++ more)
  stop_prefix stops =
      let all = takes_on found.takes stops.takes in
      prefix_seen found stops.lines (stops.rest ++ (input_of all).rest) (input_of all).input stops.whole (input_seen all) stops.few

  pub prefix_at_stop : {left : Option (List ℕ)} {read' : ℕ} {old new : Option (List ℕ)} → Stops AppendsSome count ahead read read' mid left old new → AppendsPrefixOf known period old new
  prefix_at_stop {left} {read'} {old} {new} stops =
      let it = input_of (takes_on found.takes stops.takes) in
      let prefix = stop_prefix stops in
      record { input = it.input; is_input = it.is_input; appended = subst (AppendsSome old new) (sym prefix.1) (some_longer old new (lines_text stops.lines) prefix.0 stops.appended) }

  -- short of all that was read
  pub less_at_stop : {left : Option (List ℕ)} {read' : ℕ} {old new : Option (List ℕ)} → Stops AppendsPrefix count ahead read read' mid left old new → AppendsLess known period old new
  less_at_stop {left} {read'} {old} {new} stops =
      let it = input_of (takes_on found.takes stops.takes) in
      let prefix = stop_prefix stops in
      record { input = it.input; is_input = it.is_input; appended = subst (AppendsPrefix old new) (sym prefix.1) (prefix_within old new (lines_text stops.lines) prefix.0 stops.appended) }

  module _ {lacking : ℕ} {left : Option (List ℕ)} {rest : List ℕ} {read' : ℕ} {old new : Option (List ℕ)} (copies : Copies count lacking ahead rest read read' mid left old new) where
    -- lines lack
    pub torn_answer : 0 < lacking → IsEnded rest left → read' ≤ 4_294_967_296 → AppendsPart known period old new
    torn_answer some ended short =
        let all = takes_on found.takes copies.takes in
        let it = input_of all in
        let counted = copies.counted in
        let first : first_file period it.input ≡ TornFile (lines_text copies.lines) =
        torn_seen found copies.lines (rest ++ it.rest) it.input copies.whole (input_seen all) (omega (arith, counted, some)) (at_end rest it.rest (it.ended ended.1) ended.0) in
        record {
          input = it.input;
          is_input = it.is_input;
          is_torn = short_answer period it.input (input_fits all ended.1 short) ∙ ap answer_of first;
          appended = subst (Appends old new) (sym (ap part_of first)) copies.appended;
        }

    pub torn_refused : 0 < lacking → IsEnded rest left → read' ≤ 4_294_967_296 → IfSome known (λ input. file_in period input ≡ Err fault.Torn)
    torn_refused some ended short =
        let it = torn_answer some ended short in
        if_known known it.input it.is_input (λ input. file_in period input ≡ Err fault.Torn) it.is_torn

    -- none lacks, and all was read
    pub whole_answer : lacking ≡ 0 → IsAtEnd left → read' ≤ 4_294_967_296 → (input file : List ℕ) × IsFileOf known period input file × Appends old new file
    whole_answer none end short =
        let all = takes_on found.takes copies.takes in
        let it = input_of all in
        let counted = copies.counted in (
          it.input,
          lines_text copies.lines,
          record { is_input = it.is_input; is_file = whole_seen found copies.lines (rest ++ it.rest) it.input copies.whole (input_seen all) (omega (arith, counted, none)) (input_fits all end short) },
          copies.appended,
        )
