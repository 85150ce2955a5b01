-- The headline, of the bytes of every run's transcript.
use Rattle.std.proofs.Common.{◌≡◌, ℕ, List, [], ◌∷◌, length, map, take, drop, refl, sym, ap, subst, ◌∙◌, arith, Some, Contains}
use Rattle.std.specs.Prelude.{All, slice_get}
use Rattle.std.proofs.lemmas.List.{length-map}
use Rattle.std.proofs.lemmas.Option.{same_Some, slice_get_within}
use Rattle.metering_model.specs.BatchReading.{Lines, lines_in}
use Rattle.metering_model.specs.Cut.{Cut, IsGrowing}
use Rattle.metering_model.specs.Sheet.{Sheet, Issuer}
use Rattle.metering_model.specs.SheetRules.{IsSheet, IsIssuer}
use Rattle.metering_model.specs.Holding.{IsHolding}
use Rattle.metering_model.specs.Front.{AreDueBetween}
use Rattle.metering_model.specs.Rows.{rows}
use Rattle.metering_model.specs.File.{header_line, fields_of_row, file}
use Rattle.metering_model.specs.Totals.{sum_of}
use Rattle.metering_model.specs.Limits.{most_packets}
use Rattle.metering_model.specs.World.{World, Event, Snapshot, Reply, Exported, KeptText, last_cut, opening}
use Rattle.metering_model.specs.Step.{cut_before, play}
use Rattle.metering_model.specs.Transcript.{file_of, transcript}
use Rattle.group_laws.specs.Headline.{HoldsAfter}
use Rattle.group_laws.proofs.EveryRun.{holds_after}
use Rattle.row_laws.specs.Charged.{charges_up_to}
use Rattle.row_laws.specs.Charged.{files as files_of}
use Rattle.row_laws.specs.Columns.{line_of_row, data_lines, sum_of_first_column}
use Rattle.row_laws.specs.Due.{StartsBeforeItsPeriodEnds}
use Rattle.row_laws.proofs.DueLaws.{rows_start_before}
use Rattle.row_laws.proofs.FileLaws.{one_line_each, texts_add_up}
use Rattle.transcript_laws.specs.Shown.{Shows, HoldsOfBytes}
use Rattle.transcript_laws.specs.Csv.{csv_fields, new_lines}
use Rattle.transcript_laws.proofs.CsvLaws.{rows_read}
use Rattle.transcript_laws.proofs.NewLines.{as_many_new_lines}
use Rattle.transcript_laws.proofs.FileLines.{are_plain, file_plain}
use Rattle.transcript_laws.proofs.FileSizes.{few_batches, few_rows}
use Rattle.transcript_laws.proofs.ReplyLines.{IsFileShown, IsKeptShown, AreFilesShown}
use Rattle.transcript_laws.proofs.KeptTextLines.{kept_text_shown}
use Rattle.group_laws.proofs.Agreed.{element_of}
use Rattle.group_laws.proofs.Forms.{HasForms-opening}
use Rattle.group_laws.proofs.KeptReplies.{texts_are_kept}
use Rattle.transcript_laws.proofs.ShownExports.{shown_is_exported, exported_is_shown}
use Rattle.transcript_laws.proofs.InTime.{were_due}
use Rattle.transcript_laws.proofs.ShownTotals.{first_grow, are_the_files}

module _ (voters observers agents : ℕ) (sheet : Sheet) (issuer : Issuer) (events : List Event) (limits : IsSheet sheet) (names : IsIssuer issuer) where
  abbrev pub replies : List Reply
  replies = (play (opening voters observers agents sheet issuer) events).0

  abbrev reached : World
  reached = (play (opening voters observers agents sheet issuer) events).1

  headline : HoldsAfter voters observers agents sheet issuer events replies reached
  headline = holds_after most_packets voters observers agents sheet issuer events

  journals_are : IsHolding reached.journals
  journals_are = headline.rules.is_holding

  -- ---- the exported files

  -- the file of an export, with the sheet and the issuer that the group was opened with
  file_between : (s : Snapshot) → Contains replies (Exported s) → file_of s ≡ file (rows sheet issuer reached.journals s.period s.from s.to)
  file_between s has =
      (headline.exports s has).file
      ∙ (ap (λ x. file (rows x reached.issuer reached.journals s.period s.from s.to)) headline.sheet_kept
      ∙ ap (λ x. file (rows sheet x reached.journals s.period s.from s.to)) headline.issuer_kept)

  lines_of_export : (s : Snapshot) → Contains replies (Exported s) →
      lines_in (file_of s) ≡ record { lines = header_line ∷ map line_of_row (rows sheet issuer reached.journals s.period s.from s.to); rest = [] }
  lines_of_export s has = ap lines_in (file_between s has) ∙ one_line_each sheet issuer reached.journals journals_are limits names s.period s.from s.to

  pub export_is_shown : (s : Snapshot) → Contains replies (Exported s) → IsFileShown s
  export_is_shown s has =
      let xs = rows sheet issuer reached.journals s.period s.from s.to in
      let is = lines_of_export s has in
      let lines = ap (λ (x : Lines). x.lines) is in
      let size = ap length lines in
      let count = length-map xs line_of_row in
      let few = few_rows sheet issuer reached.journals s.period s.from s.to journals_are.batches in
      let batches = few_batches voters observers agents sheet issuer events in
      let within = slice_get_within headline.cuts s.period s.to (headline.exports s has).to in
      let most = headline.are_the_cuts.in_range in
      record {
        ended = ap (λ (x : Lines). x.rest) is;
        plain = ap are_plain lines ∙ file_plain xs;
        few = omega (arith, size, count, few, batches);
        period = omega (arith, within, most);
      }

  -- ---- the texts that were kept

  text_is_shown : (text : List ℕ) → Contains replies (KeptText text) → IsKeptShown text
  text_is_shown text has =
      let at = element_of replies (KeptText text) has in
      let of = texts_are_kept events (opening voters observers agents sheet issuer) (HasForms-opening most_packets voters observers agents sheet issuer) at.0 text at.1 in
      subst IsKeptShown (sym of.2) (kept_text_shown of.0 of.1)

  pub all_are_shown : AreFilesShown replies
  all_are_shown = record { files = export_is_shown; texts = text_is_shown }

  -- ---- the files that are shown

  pub only : (period : ℕ) (shown : List ℕ) → Shows (transcript replies) period shown →
      (s : Snapshot) × Contains replies (Exported s) × (s.period ≡ period) × (shown ≡ file_of s)
  only period shown it = shown_is_exported replies all_are_shown period shown it

  agree : (period : ℕ) (one two : List ℕ) → Shows (transcript replies) period one → Shows (transcript replies) period two → one ≡ two
  agree period one two here there =
      let a = only period one here in
      let b = only period two there in
      a.3 ∙ ap file_of (headline.one_export a.0 b.0 a.1 b.1 (a.2 ∙ sym b.2)) ∙ sym b.3

  abbrev IsFileAt : ℕ → List ℕ → Type 0
  IsFileAt period shown =
      (to : Cut) × (slice_get headline.cuts period ≡ Some to) × (shown ≡ file (rows sheet issuer reached.journals period (cut_before agents headline.cuts period) to))

  export_is_file : (s : Snapshot) → Contains replies (Exported s) → IsFileAt s.period (file_of s)
  export_is_file s has =
      let it = headline.exports s has in (
        s.to,
        it.to,
        file_between s has
            ∙ (ap (λ x. file (rows sheet issuer reached.journals s.period x s.to)) it.from
            ∙ ap (λ n. file (rows sheet issuer reached.journals s.period (cut_before n headline.cuts s.period) s.to)) headline.agents_kept),
      )

  files : (period : ℕ) (shown : List ℕ) → Shows (transcript replies) period shown → IsFileAt period shown
  files period shown it =
      let a = only period shown it in
      subst (λ p. IsFileAt p shown) a.2 (subst (IsFileAt a.0.period) (sym a.3) (export_is_file a.0 a.1))

  lines : (period : ℕ) (shown : List ℕ) (to : Cut) → Shows (transcript replies) period shown → slice_get headline.cuts period ≡ Some to →
      lines_in shown ≡ record { lines = header_line ∷ map line_of_row (rows sheet issuer reached.journals period (cut_before agents headline.cuts period) to); rest = [] }
  lines period shown to it at =
      let a = files period shown it in
      let before = cut_before agents headline.cuts period in
      ap lines_in a.2
      ∙ (ap (λ x. lines_in (file (rows sheet issuer reached.journals period before x))) (same_Some a.0 to (sym a.1 ∙ at))
      ∙ one_line_each sheet issuer reached.journals journals_are limits names period before to)

  fields : (period : ℕ) (shown : List ℕ) (to : Cut) → Shows (transcript replies) period shown → slice_get headline.cuts period ≡ Some to →
      map csv_fields (data_lines shown) ≡ map fields_of_row (rows sheet issuer reached.journals period (cut_before agents headline.cuts period) to)
  fields period shown to it at =
      ap (λ (x : Lines). map csv_fields (drop 1 x.lines)) (lines period shown to it at)
      ∙ rows_read (rows sheet issuer reached.journals period (cut_before agents headline.cuts period) to)

  due : (period : ℕ) (to : Cut) → slice_get headline.cuts period ≡ Some to → AreDueBetween sheet.base period reached.journals (cut_before agents headline.cuts period) to
  due period to at =
      subst (λ x. AreDueBetween x.base period reached.journals (cut_before agents headline.cuts period) to) headline.sheet_kept
      (subst (λ n. AreDueBetween reached.sheet.base period reached.journals (cut_before n headline.cuts period) to) headline.agents_kept
      (headline.are_the_cuts.due period to at))

  in_time : (period : ℕ) (to : Cut) → slice_get headline.cuts period ≡ Some to →
      All StartsBeforeItsPeriodEnds (rows sheet issuer reached.journals period (cut_before agents headline.cuts period) to)
  in_time period to at =
      let within = slice_get_within headline.cuts period to at in
      let most = headline.are_the_cuts.in_range in
      rows_start_before sheet issuer reached.journals period (cut_before agents headline.cuts period) to journals_are limits.base (omega (arith, within, most))
      (due period to at) (were_due sheet.base agents reached.journals headline.cuts due period to at)

  growing : IsGrowing agents headline.cuts
  growing = subst (λ n. IsGrowing n headline.cuts) headline.agents_kept headline.are_the_cuts.growing

  -- files of each period from 0 on, up to some last one
  abbrev AreShown : List (List ℕ) → Type 0
  AreShown shown = (period : ℕ) (one : List ℕ) → slice_get shown period ≡ Some one → Shows (transcript replies) period one

  shown_are_files : (shown : List (List ℕ)) → AreShown shown → shown ≡ map file (files_of sheet issuer reached.journals agents (take (length shown) headline.cuts))
  shown_are_files shown each = are_the_files sheet issuer reached.journals agents headline.cuts shown (λ p one e. files p one (each p one e))

  new_once : (shown : List (List ℕ)) → AreShown shown →
      length (new_lines shown) ≡ length (charges_up_to sheet reached.journals (last_cut agents (take (length shown) headline.cuts)))
  new_once shown each =
      ap (λ texts. length (new_lines texts)) (shown_are_files shown each)
      ∙ as_many_new_lines sheet issuer reached.journals journals_are limits names agents (take (length shown) headline.cuts) (first_grow agents headline.cuts (length shown) growing)

  adds_up : (shown : List (List ℕ)) → AreShown shown →
      sum_of_first_column shown
      ≡ Some (sum_of (λ x. x.billed) (charges_up_to sheet reached.journals (last_cut agents (take (length shown) headline.cuts))))
  adds_up shown each =
      ap sum_of_first_column (shown_are_files shown each)
      ∙ texts_add_up sheet issuer reached.journals journals_are limits names agents (take (length shown) headline.cuts) (first_grow agents headline.cuts (length shown) growing)

  pub holds_of_bytes : HoldsOfBytes voters observers agents sheet issuer events (transcript replies)
  holds_of_bytes = record {
    replies = replies;
    world = reached;
    is_run = refl;
    is_transcript = refl;
    headline = headline;
    cuts = headline.cuts;
    are_the_cuts = headline.are_the_cuts;
    agree = agree;
    files = files;
    lines = lines;
    fields = fields;
    in_time = in_time;
    each = exported_is_shown replies all_are_shown;
    only = only;
    charged_once = headline.charged_once;
    new_once = new_once;
    adds_up = adds_up;
  }
