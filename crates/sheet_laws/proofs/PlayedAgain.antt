-- The old events, but for those that were refused for a price or a commitment, and further ones behind them, under a longer sheet.
use Rattle.std.proofs.Common.{◌≡◌, ℕ, List, ◌++◌, refl, sym, ap, subst, ◌≤ℤ◌, ℤ, Contains}
use Rattle.metering_model.specs.Dates.{period_end}
use Rattle.metering_model.specs.Sheet.{Sheet, Issuer}
use Rattle.metering_model.specs.SheetRules.{IsSheet, IsIssuer}
use Rattle.metering_model.specs.World.{World, Event, Snapshot, Reply, Exported, opening}
use Rattle.metering_model.specs.Step.{play}
use Rattle.metering_model.specs.Transcript.{transcript}
use Rattle.transcript_laws.specs.Shown.{Shows}
use Rattle.transcript_laws.proofs.EveryTranscript.{all_are_shown, only, holds_of_bytes}
use Rattle.transcript_laws.proofs.LongerTranscripts.{still_shown}
use Rattle.transcript_laws.proofs.ShownExports.{exported_is_shown}
use Rattle.sheet_laws.specs.Longer.{GoesOnFrom, NamesAllAlike, day_start}
use Rattle.sheet_laws.specs.Runs.{AreAllPriced, PricesAllOf, replies_kept, events_kept}
use Rattle.sheet_laws.proofs.LeftOut.{left_out, rest_is_priced, stays, was_there}
use Rattle.sheet_laws.proofs.TwoRuns.{still_priced}
use Rattle.sheet_laws.proofs.ShownMonths.{both_show}

module _ (voters observers agents : ℕ) (old new : Sheet) (issuer : Issuer) (events more : List Event) (day : ℤ) (limits : IsSheet old) (limits_new : IsSheet new) (names : IsIssuer issuer)
    (goes : GoesOnFrom day old new) (prices : PricesAllOf old new)
    (period : ℕ) (ends : period_end old.base period ≤ℤ day_start day)
    (alike : (s : Snapshot) → Contains (play (opening voters observers agents old issuer) events).0 (Exported s) → s.period ≡ period → NamesAllAlike old new s.batches)
  where
    abbrev before : List Reply
    before = (play (opening voters observers agents old issuer) events).0

    abbrev kept : List Event
    kept = events_kept events before

    -- the run that is played again, under the old sheet
    abbrev between : List Reply
    between = (play (opening voters observers agents old issuer) kept).0

    abbrev after : List Reply
    after = (play (opening voters observers agents new issuer) (kept ++ more)).0

    between_is : between ≡ replies_kept before
    between_is = ap (λ (run : List Reply × World). run.0) (left_out (opening voters observers agents old issuer) events)

    priced : AreAllPriced between
    priced = subst AreAllPriced (sym between_is) (rest_is_priced before)

    priced_new : AreAllPriced (play (opening voters observers agents new issuer) kept).0
    priced_new = still_priced voters observers agents old new issuer kept goes.base prices priced

    alike_between : (s : Snapshot) → Contains between (Exported s) → s.period ≡ period → NamesAllAlike old new s.batches
    alike_between s has = alike s (was_there before (Exported s) (subst (λ rs. Contains rs (Exported s)) between_is has))

    shown_between : (shown : List ℕ) → Shows (transcript before) period shown → Shows (transcript between) period shown
    shown_between shown it =
        let a = only voters observers agents old issuer events limits names period shown it in
        let has = subst (λ rs. Contains rs (Exported a.0)) (sym between_is) (stays before (Exported a.0) refl a.1) in
        let there = exported_is_shown between (all_are_shown voters observers agents old issuer kept limits names) a.0 has in
        subst (λ p. Shows (transcript between) p shown) a.2 (subst (Shows (transcript between) a.0.period) (sym a.3) there)

    pub shown_again : (shown : List ℕ) → Shows (transcript before) period shown → Shows (transcript after) period shown
    shown_again shown it =
        still_shown voters observers agents new issuer kept more limits_new names period shown
        ((both_show voters observers agents old new issuer kept day limits limits_new names goes priced priced_new period ends alike_between shown).0 (shown_between shown it))

    pub alike_again : (one two : List ℕ) → Shows (transcript before) period one → Shows (transcript after) period two → one ≡ two
    alike_again one two here there = (holds_of_bytes voters observers agents new issuer (kept ++ more) limits_new names).agree period one two (shown_again one here) there
