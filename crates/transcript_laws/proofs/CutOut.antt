-- What is cut out of a front of a transcript is the period's file, or a front of it; and where nothing is, no line stands above one.
use Rattle.std.proofs.Common.{◌≡◌, ◌≢◌, ℕ, ◌<◌, ◌≤◌, ◌^◌, List, [], ◌∷◌, ◌++◌, length, take, drop, Contains, refl, sym, ap, subst, ◌∙◌, arith, inl, inr, append_assoc, append-nil, length-drop}
use Rattle.std.proofs.lemmas.List.{take-append-drop, take-append-le, length-append}
use Rattle.std.proofs.Math.Seq.{take-append_seam}
use Rattle.metering_model.specs.BatchReading.{Lines, lines_in}
use Rattle.metering_model.specs.Sheet.{Sheet, Issuer}
use Rattle.metering_model.specs.SheetRules.{IsSheet, IsIssuer}
use Rattle.metering_model.specs.World.{Event, Snapshot, Reply, Exported, opening}
use Rattle.metering_model.specs.Step.{play}
use Rattle.metering_model.specs.Transcript.{file_of, line, transcript}
use Rattle.metering_model.specs.Schedule.{TextLines, lines_text}
use Rattle.metering_model.proofs.Splitting.{lines_give_back, lines_of_text}
use Rattle.transcript_laws.specs.Shown.{line_above, Shows, HoldsOfBytes}
use Rattle.transcript_laws.specs.FirstFiles.{NoFile, TornFile, WholeFile, first_file, first_of_lines, IsPeriodsFile}
use Rattle.transcript_laws.proofs.TextLaws.{lines_append, front_of_lines, lines_in_whole}
use Rattle.transcript_laws.proofs.ReplyLines.{file_lines, transcript_lines, AreFilesShown, lines_are_whole, file_is, transcript_is}
use Rattle.transcript_laws.proofs.ShownExports.{same_above, export_of_line, exported_is_shown}
use Rattle.transcript_laws.proofs.EveryTranscript.{replies, all_are_shown}
use Rattle.transcript_laws.proofs.FirstFileLaws.{FindsAbove, find_above, not_none, told_above, told_begins, told_is, torn_of_lines, whole_of_lines}

-- ---- lists of lines of which one is the front of the other

taken_front : (after ns fs rest : TextLines) (count : ℕ) → count ≡ length fs → count ≤ length after → after ++ ns ≡ fs ++ rest → take count after ≡ fs
taken_front after ns fs rest count is few e =
    sym (take-append-le count after ns few) ∙ ap (take count) e ∙ ap (λ n. take n (fs ++ rest)) is ∙ take-append_seam fs rest

longer : (after ns fs rest : TextLines) → length after ≤ length fs → after ++ ns ≡ fs ++ rest → fs ≡ after ++ drop (length after) fs
longer after ns fs rest few e =
    let front : take (length after) fs ≡ after = sym (take-append-le (length after) fs rest few) ∙ ap (take (length after)) (sym e) ∙ take-append_seam after ns in
    sym (take-append-drop (length after) fs) ∙ ap (λ (t : TextLines). t ++ drop (length after) fs) front

-- a line has its line feed
some_text : (ls : TextLines) → 0 < length ls → lines_text ls ≢ []
some_text [] some none = omega (arith, some)
some_text (x ∷ xs) some none =
    let size = ap length none in
    omega (arith, size, length-append (line x) (lines_text xs), length-append x (10 ∷ []))

module _ (voters observers agents : ℕ) (sheet : Sheet) (issuer : Issuer) (events : List Event) (limits : IsSheet sheet) (names : IsIssuer issuer) where
  abbrev now : List Reply
  now = replies voters observers agents sheet issuer events limits names

  known : AreFilesShown now
  known = all_are_shown voters observers agents sheet issuer events limits names

  module _ (front rest : List ℕ) (e : transcript now ≡ front ++ rest) where
    abbrev ls : TextLines
    ls = (lines_in front).lines

    -- the whole lines of a front are first lines of the transcript
    lines_of_front : (ns : TextLines) × (transcript_lines now ≡ ls ++ ns)
    lines_of_front =
        front_of_lines ls (transcript_lines now) ((lines_in front).rest ++ rest) (lines_in_whole front) (lines_are_whole now)
        (sym (transcript_is now known) ∙ e ∙ ap (λ t. t ++ rest) (sym (lines_give_back front)) ∙ append_assoc (lines_text ls) (lines_in front).rest rest)

    behind : (before after : TextLines) (x : List ℕ) → ls ≡ before ++ x ∷ after → transcript_lines now ≡ before ++ x ∷ (after ++ lines_of_front.0)
    behind before after x is =
        lines_of_front.1 ∙ ap (λ (t : TextLines). t ++ lines_of_front.0) is ∙ append_assoc before (x ∷ after) lines_of_front.0

    record IsExport (period count : ℕ) (after : TextLines) : Type 0 where
      pub snapshot : Snapshot
      pub has : Contains now (Exported snapshot)
      pub is_period : snapshot.period ≡ period
      pub is_count : count ≡ length (file_lines snapshot)
      pub others : TextLines
      pub is_behind : after ++ lines_of_front.0 ≡ file_lines snapshot ++ others

    -- the first line above a file of the period is that of an export of the period
    is_export : (period : ℕ) (it : FindsAbove period ls) → IsExport period it.count it.after
    is_export period it =
        let found = export_of_line now known it.before (it.after ++ lines_of_front.0) it.above (told_begins period it.count it.above it.told) (behind it.before it.after it.above it.is_lines) in
        let s = found.snapshot in
        let file = known.files s found.has in
        let tells = told_is period it.count s.period (length (file_lines s)) it.above file.period file.few it.told found.above in
        record { snapshot = s; has = found.has; is_period = sym tells.0; is_count = tells.1; others = found.rest; is_behind = found.behind }

    shown_of : (period count : ℕ) (after : TextLines) (it : IsExport period count after) → Shows (transcript now) period (file_of it.snapshot)
    shown_of period count after it =
        subst (λ p. Shows (transcript now) p (file_of it.snapshot)) it.is_period (exported_is_shown now known it.snapshot it.has)

    pub cut_whole_file : (period : ℕ) (shown : List ℕ) → first_file period front ≡ WholeFile shown → Shows (transcript now) period shown
    cut_whole_file period shown first = elim (find_above period ls) [
      | inl none ↦ absurd (no_whole none)
      | inr it ↦
          let export = is_export period it in
          let lines = whole_of_lines it.count it.after shown (sym it.first ∙ first) in
          let same = taken_front it.after lines_of_front.0 (file_lines export.snapshot) export.others it.count export.is_count lines.0 export.is_behind in
          let file : file_of export.snapshot ≡ shown = file_is export.snapshot (known.files export.snapshot export.has) ∙ ap lines_text (sym same) ∙ sym lines.1 in
          subst (Shows (transcript now) period) file (shown_of period it.count it.after export)
    ]
      where
        no_whole : first_of_lines period ls ≡ NoFile → ⊥
        no_whole none = let is : NoFile ≡ WholeFile shown = sym none ∙ first in absurd (cc)

    pub cut_torn_file : (period : ℕ) (part : List ℕ) → first_file period front ≡ TornFile part → (more : List ℕ) × (more ≢ []) × Shows (transcript now) period (part ++ more)
    cut_torn_file period part first = elim (find_above period ls) [
      | inl none ↦ absurd (no_torn none)
      | inr it ↦
          let export = is_export period it in
          let lines = torn_of_lines it.count it.after part (sym it.first ∙ first) in
          let fs = file_lines export.snapshot in
          let more = drop (length it.after) fs in
          let short : length it.after ≤ length fs = let few = lines.0 in let is = export.is_count in omega (arith, few, is) in
          let long = longer it.after lines_of_front.0 fs export.others short export.is_behind in
          let file : file_of export.snapshot ≡ part ++ lines_text more =
          file_is export.snapshot (known.files export.snapshot export.has) ∙ ap lines_text long ∙ lines_append it.after more ∙ ap (λ t. t ++ lines_text more) (sym lines.1) in
          let left : 0 < length more = let few = lines.0 in let is = export.is_count in omega (arith, few, is, length-drop (length it.after) fs) in
          (lines_text more, some_text more left, subst (Shows (transcript now) period) file (shown_of period it.count it.after export))
    ]
      where
        no_torn : first_of_lines period ls ≡ NoFile → ⊥
        no_torn none = let is : NoFile ≡ TornFile part = sym none ∙ first in absurd (cc)

    -- a line above a file of the period is found
    pub none_above : (period : ℕ) → first_file period front ≡ NoFile → (before after : TextLines) (count : ℕ) → ls ≢ before ++ line_above period count ∷ after
    none_above period none before after count is =
        let x = line_above period count in
        let found = export_of_line now known before (after ++ lines_of_front.0) x refl (behind before after x is) in
        let s = found.snapshot in
        let file = known.files s found.has in
        let numbers = same_above period count s.period (length (file_lines s)) file.period file.few found.above in
        let few : count < 10 ^ 63 = let limit = file.few in let same = numbers.1 in omega (arith, limit, same) in
        not_none period count before after x (told_above period count few) (sym (ap (first_of_lines period) is) ∙ none)

  -- a whole transcript has no torn file
  pub never_torn : (period : ℕ) (part : List ℕ) → first_file period (transcript now) ≢ TornFile part
  never_torn period part first = elim (find_above period (lines_in (transcript now)).lines) [
    | inl none ↦ absurd (no_torn none)
    | inr it ↦
        let whole : transcript now ≡ transcript now ++ [] = sym (append-nil (transcript now)) in
        let export = is_export (transcript now) [] whole period it in
        let lines = torn_of_lines it.count it.after part (sym it.first ∙ first) in
        let more = lines_of_front (transcript now) [] whole in
        let all : (lines_in (transcript now)).lines ≡ transcript_lines now =
        ap (λ t. (lines_in t).lines) (transcript_is now known) ∙ ap (λ (x : Lines). x.lines) (lines_of_text (transcript_lines now) (lines_are_whole now)) in
        let counts = ap length more.1 in
        let sum = length-append (lines_in (transcript now)).lines more.0 in
        let size = ap length all in
        let nothing : length more.0 ≡ 0 = omega (arith, counts, sum, size) in
        let behind = ap length export.is_behind in
        let left = length-append it.after more.0 in
        let right = length-append (file_lines export.snapshot) export.others in
        let few = lines.0 in
        let is = export.is_count in
        absurd (omega (arith, behind, left, right, few, is, nothing))
  ]
    where
      no_torn : first_of_lines period (lines_in (transcript now)).lines ≡ NoFile → ⊥
      no_torn none = let is : NoFile ≡ TornFile part = sym none ∙ first in absurd (cc)

-- ---- the law

module _ (voters observers agents : ℕ) (sheet : Sheet) (issuer : Issuer) (events : List Event) (text : List ℕ) (limits : IsSheet sheet) (names : IsIssuer issuer) (holds : HoldsOfBytes voters observers agents sheet issuer events text) where
  same_text : text ≡ transcript (play (opening voters observers agents sheet issuer) events).0
  same_text = holds.is_transcript ∙ ap (λ r. transcript r.0) (sym holds.is_run)

  periods_file : (period : ℕ) (shown : List ℕ) → Shows (transcript (play (opening voters observers agents sheet issuer) events).0) period shown → IsPeriodsFile holds period shown
  periods_file period shown it = let here = subst (λ t. Shows t period shown) (sym same_text) it in (here, holds.files period shown here)

  pub cut_out_whole : (front rest : List ℕ) → text ≡ front ++ rest → (period : ℕ) (shown : List ℕ) → first_file period front ≡ WholeFile shown → IsPeriodsFile holds period shown
  cut_out_whole front rest e period shown first =
      periods_file period shown (cut_whole_file voters observers agents sheet issuer events limits names front rest (sym same_text ∙ e) period shown first)

  pub cut_out_torn : (front rest : List ℕ) → text ≡ front ++ rest → (period : ℕ) (part : List ℕ) → first_file period front ≡ TornFile part → (more : List ℕ) × (more ≢ []) × IsPeriodsFile holds period (part ++ more)
  cut_out_torn front rest e period part first =
      let it = cut_torn_file voters observers agents sheet issuer events limits names front rest (sym same_text ∙ e) period part first in
      (it.0, it.1, periods_file period (part ++ it.0) it.2)

  pub cut_out_none : (front rest : List ℕ) → text ≡ front ++ rest → (period : ℕ) → first_file period front ≡ NoFile → (before after : TextLines) (count : ℕ) → (lines_in front).lines ≢ before ++ line_above period count ∷ after
  cut_out_none front rest e period none = none_above voters observers agents sheet issuer events limits names front rest (sym same_text ∙ e) period none

  pub never_cut_torn : (period : ℕ) (part : List ℕ) → first_file period text ≢ TornFile part
  never_cut_torn period part first = never_torn voters observers agents sheet issuer events limits names period part (ap (first_file period) (sym same_text) ∙ first)
