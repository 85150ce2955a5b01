-- What is exported under several sheets: it is made of the same as under the last one, and the file of a month that is closed by then is the same bytes.
use Rattle.std.proofs.Common.{◌≡◌, ℕ, ◌+◌, ◌<◌, ◌≤◌, Bool, true, false, not, List, [], ◌∷◌, map, refl, sym, ap, subst, ◌∙◌, Option, Some, None, is_some, All, ℤ, ◌<ℤ◌}
use Rattle.std.specs.Prelude.{if◌then◌else◌, slice_get}
use Rattle.std.specs.List.{AllZip, Contains}
use Rattle.std.proofs.lemmas.Bool.{true≢false}
use Rattle.std.proofs.lemmas.List.Elements.{All-nil, All-cons, All-contains, All-weaker, Contains-append_right}
use Rattle.metering_model.specs.Dates.{period_end}
use Rattle.metering_model.specs.Batch.{Reading}
use Rattle.metering_model.specs.Cut.{Cut, last_of}
use Rattle.metering_model.specs.Sheet.{Sheet}
use Rattle.metering_model.specs.Holding.{Position, up_to, reading_at}
use Rattle.metering_model.specs.JournalRules.{MeetsJournalRules}
use Rattle.metering_model.specs.declared.BrokenRule.{BrokenRule}
use Rattle.metering_model.specs.Front.{AreDueBetween}
use Rattle.metering_model.specs.Rows.{placed_rows}
use Rattle.metering_model.specs.File.{file}
use Rattle.metering_model.specs.World.{World, Snapshot}
use Rattle.metering_model.specs.Step.{cut_before, play}
use Rattle.metering_model.specs.Transcript.{file_of}
use Rattle.metering_model.proofs.RulesUpToCut.{MeetsJournalRules-up_to}
use Rattle.group_laws.specs.Headline.{IsExport}
use Rattle.group_laws.specs.OneAgent.{batches_of}
use Rattle.group_laws.proofs.EveryRun.{contains_at}
use Rattle.sheet_laws.specs.Longer.{GoesOnFrom, NamesAllAlike}
use Rattle.sheet_laws.specs.Pairs.{IsPricedBefore, StayAlike}
use Rattle.sheet_laws.proofs.DayStarts.{starts_before_day}
use Rattle.sheet_laws.proofs.FoundReadings.{above_too}
use Rattle.sheet_laws.proofs.Months.{reading_in_time}
use Rattle.sheet_laws.proofs.PairedRows.{rows_pair, rows_stay}
use Rattle.process_laws.specs.LocalSteps.{Group, HasExported, Answer, saying}
use Rattle.process_laws.specs.Histories.{Act, begun, answers, opened, IsDoneByWorld}
use Rattle.process_laws.proofs.AgreedExports.{files_are_the_same, each_batch_once, next_begins_there, batches_are_journaled}
use Rattle.process_laws.proofs.DoneByWorld.{is_done_by_world}
use Rattle.process_laws.proofs.ExportedAnswers.{exported_among}
use Rattle.price_change_laws.specs.SheetedHistories.{SheetedAct, sheeted_answers, sheeted_after, IsSheetedHistory, AreTakenOver, lacks_price, answers_kept, acts_kept, answer_under, EndsBeforeChange}
use Rattle.price_change_laws.proofs.KeptActs.{IsFitAnswer, AreKept, all_kept}

-- ---- what was answered is answered under the last sheet too

kept_among : (last : Sheet) (xs : List Answer) → All (λ x. lacks_price x ≡ false → Contains (map (answer_under last) (answers_kept xs)) (answer_under last x)) xs
kept_among last [] = All-nil (λ x. lacks_price x ≡ false → Contains {X = Answer} [] (answer_under last x))
kept_among last (y ∷ ys) = by_test (kept_among last ys) (lacks_price y) refl
  where
    later : List Answer
    later = map (answer_under last) (answers_kept ys)

    by_test : All (λ x. lacks_price x ≡ false → Contains later (answer_under last x)) ys → (b : Bool) → lacks_price y ≡ b
        → All (λ x. lacks_price x ≡ false → Contains (map (answer_under last) (if not b then y ∷ answers_kept ys else answers_kept ys)) (answer_under last x)) (y ∷ ys)
    by_test rest true is =
        All-cons (λ x. lacks_price x ≡ false → Contains later (answer_under last x)) y ys (λ has. absurd (true≢false (sym is ∙ has))) rest
    by_test rest false is =
        All-cons (λ x. lacks_price x ≡ false → Contains (answer_under last y ∷ later) (answer_under last x)) y ys
        (λ has. contains_at (answer_under last y ∷ later) 0 (answer_under last y) refl)
        (All-weaker (λ x. lacks_price x ≡ false → Contains later (answer_under last x))
        (λ x. lacks_price x ≡ false → Contains (answer_under last y ∷ later) (answer_under last x))
        (λ x in_later has. Contains-append_right (answer_under last y ∷ []) later (answer_under last x) (in_later has)) ys rest)

none_from : (o : Option BrokenRule) → not (is_some o) ≡ true → o ≡ None
none_from None is = refl
none_from (Some rule) is = absurd (true≢false (sym is))

module _ (g : Group) (acts : List SheetedAct) (history : IsSheetedHistory g (begun g) acts) (taken : AreTakenOver g.sheet acts) where
  kept : AreKept g (begun g) (begun g) acts
  kept = all_kept g acts history taken

  abbrev others : List Act
  others = acts_kept acts (sheeted_answers g (begun g) acts)

  abbrev HasFile : Snapshot → Type 0
  HasFile s = Contains (sheeted_answers g (begun g) acts) (saying (HasExported s))

  abbrev under_last : Snapshot → Snapshot
  under_last s = record s { sheet = g.sheet }

  has_too : (s : Snapshot) → HasFile s → Contains (answers g (begun g) others) (saying (HasExported (under_last s)))
  has_too s has =
      subst (λ xs. Contains xs (saying (HasExported (under_last s)))) (sym kept.answered)
      (All-contains (λ x. lacks_price x ≡ false → Contains (map (answer_under g.sheet) (answers_kept (sheeted_answers g (begun g) acts))) (answer_under g.sheet x))
      (sheeted_answers g (begun g) acts) (saying (HasExported s)) (kept_among g.sheet (sheeted_answers g (begun g) acts)) has refl)

  -- ---- two exports

  same_under_last : (s t : Snapshot) → HasFile s → HasFile t → s.period ≡ t.period → under_last s ≡ under_last t
  same_under_last s t has had same = files_are_the_same g others kept.history (under_last s) (under_last t) (has_too s has) (has_too t had) same

  pub made_alike : (s t : Snapshot) → HasFile s → HasFile t → s.period ≡ t.period → record s { sheet = t.sheet } ≡ t
  made_alike s t has had same = ap (λ (u : Snapshot). record u { sheet = t.sheet }) (same_under_last s t has had same)

  pub charged_once : (s t : Snapshot) → HasFile s → HasFile t → (agent seq : ℕ) → last_of s.from agent < seq → seq ≤ last_of s.to agent
      → last_of t.from agent < seq → seq ≤ last_of t.to agent → s.period ≡ t.period
  charged_once s t has had = each_batch_once g others kept.history (under_last s) (under_last t) (has_too s has) (has_too t had)

  pub begins_there : (s t : Snapshot) → HasFile s → HasFile t → s.period + 1 ≡ t.period → t.from ≡ s.to
  begins_there s t has had = next_begins_there g others kept.history (under_last s) (under_last t) (has_too s has) (has_too t had)

  pub are_journaled : (s : Snapshot) → HasFile s → (agent : ℕ) → batches_of agent s.batches ≡ up_to s.to ((sheeted_after g (begun g) acts).journals agent)
  are_journaled s has agent =
      batches_are_journaled g others kept.history (under_last s) (has_too s has) agent ∙ ap (up_to s.to) (kept.leads.journals agent)

  -- ---- the file of a month that is closed by then

  done : IsDoneByWorld g others
  done = is_done_by_world g others kept.history

  abbrev reached : World
  reached = (play (opened g done.room) done.events).1

  due : (period : ℕ) (to : Cut) → slice_get done.headline.cuts period ≡ Some to
      → AreDueBetween g.sheet.base period reached.journals (cut_before g.agents done.headline.cuts period) to
  due period to is =
      subst (λ x. AreDueBetween x.base period reached.journals (cut_before g.agents done.headline.cuts period) to) done.headline.sheet_kept
      (subst (λ n. AreDueBetween reached.sheet.base period reached.journals (cut_before n done.headline.cuts period) to) done.headline.agents_kept
      (done.headline.are_the_cuts.due period to is))

  module _ (s : Snapshot) (has : HasFile s) where
    export : IsExport reached done.headline.cuts (under_last s)
    export =
        done.headline.exports (under_last s)
        (exported_among g (under_last s) others (answers g (begun g) others) done.events (opened g done.room) done.matched (has_too s has))

    starts_before_end : (at : Position) (r : Reading) → reading_at s.batches at ≡ Some r → r.start <ℤ period_end g.sheet.base s.period
    starts_before_end at r e =
        reading_in_time g.sheet.base g.agents reached.journals done.headline.rules.is_holding done.headline.cuts due s.period s.to export.to at r
        (subst (λ h. reading_at h at ≡ Some r) export.batches e)

    -- under its own sheet, as the node that exported it has looked up
    rules : MeetsJournalRules s.sheet s.batches
    rules = record {
      is_holding = export.rules.is_holding;
      no_gap = export.rules.no_gap;
      none_broken = none_from _ (All-contains IsFitAnswer (sheeted_answers g (begun g) acts) (saying (HasExported s)) kept.fit has);
    }

    -- what is charged starts before the day, or has no price
    pub file_stays_if : (day : ℤ) → GoesOnFrom day s.sheet g.sheet → ((at : Position) (r : Reading) → reading_at s.batches at ≡ Some r → IsPricedBefore day r)
        → NamesAllAlike s.sheet g.sheet s.batches → file_of (record s { sheet = g.sheet }) ≡ file_of s
    file_stays_if day goes before names =
        ap file
        (rows_stay day s.sheet g.sheet goes s.issuer s.batches s.period s.from s.to (MeetsJournalRules-up_to s.sheet s.to s.batches rules)
        (λ at r found. before at r (above_too s.batches s.to at r found))
        (λ at r found. names at r (above_too s.batches s.to at r found)))

    pub file_stays : EndsBeforeChange g.sheet s → file_of (record s { sheet = g.sheet }) ≡ file_of s
    file_stays e =
        file_stays_if e.day e.goes_on
        (λ at r found _. starts_before_day r.start (period_end g.sheet.base s.period) e.day (starts_before_end at r found) e.ends) e.named

    pub rows_stay_alike : (day : ℤ) → GoesOnFrom day s.sheet g.sheet → AllZip (StayAlike day s.sheet g.sheet s.batches)
        (placed_rows s.sheet s.issuer s.batches s.period s.from s.to) (placed_rows g.sheet s.issuer s.batches s.period s.from s.to)
    rows_stay_alike day goes =
        rows_pair day s.sheet g.sheet goes s.issuer s.batches s.period s.from s.to
        (MeetsJournalRules-up_to s.sheet s.to s.batches rules) (MeetsJournalRules-up_to g.sheet s.to s.batches export.rules)

  pub same_file : (s t : Snapshot) → HasFile s → HasFile t → s.period ≡ t.period → EndsBeforeChange g.sheet s → EndsBeforeChange g.sheet t
      → file_of s ≡ file_of t
  same_file s t has had same before too =
      sym (file_stays s has before) ∙ (ap (λ (u : Snapshot). file_of u) (same_under_last s t has had same) ∙ file_stays t had too)
