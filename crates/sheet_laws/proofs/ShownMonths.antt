-- What the transcripts of two runs show of months that are over.
use Rattle.std.proofs.Common.{◌≡◌, ℕ, zero, suc, List, [], ◌∷◌, map, refl, sym, ap, subst, ◌∙◌, Some, ◌≤ℤ◌, ℤ, Contains}
use Rattle.std.specs.Prelude.{◌↔◌, slice_get}
use Rattle.std.proofs.lemmas.Option.{same_Some, none-some}
use Rattle.metering_model.specs.Dates.{period_end}
use Rattle.metering_model.specs.Sheet.{Sheet, Issuer}
use Rattle.metering_model.specs.SheetRules.{IsSheet, IsIssuer}
use Rattle.metering_model.specs.World.{Event, Snapshot, Reply, Journaled, Delivered, Started, Restarted, Exported, KeptText, Refused, opening}
use Rattle.metering_model.specs.Step.{play}
use Rattle.metering_model.specs.Transcript.{file_of, transcript}
use Rattle.group_laws.proofs.Agreed.{element_of}
use Rattle.group_laws.proofs.EveryRun.{contains_at}
use Rattle.transcript_laws.specs.Shown.{Shows, HoldsOfBytes}
use Rattle.transcript_laws.proofs.EveryTranscript.{all_are_shown, only, holds_of_bytes}
use Rattle.transcript_laws.proofs.ShownExports.{exported_is_shown}
use Rattle.sheet_laws.specs.Longer.{GoesOnFrom, NamesAllAlike, day_start}
use Rattle.sheet_laws.specs.Runs.{under_sheet, AreAllPriced}
use Rattle.sheet_laws.proofs.TwoRuns.{same_replies}
use Rattle.sheet_laws.proofs.Months.{file_stays}

-- ---- replies under another sheet

entry_mapped : {A B : Type 0} (f : A → B) (xs : List A) (k : ℕ) (x : A) → slice_get xs k ≡ Some x → slice_get (map f xs) k ≡ Some (f x)
entry_mapped f [] k x e = absurd (none-some x e)
entry_mapped f (y ∷ ys) zero x e = ap (λ z. Some (f z)) (same_Some y x e)
entry_mapped f (y ∷ ys) (suc k) x e = entry_mapped f ys k x e

mapped_entry : {A B : Type 0} (f : A → B) (xs : List A) (k : ℕ) (y : B) → slice_get (map f xs) k ≡ Some y → (x : A) × (slice_get xs k ≡ Some x) × (f x ≡ y)
mapped_entry f [] k y e = absurd (none-some y e)
mapped_entry f (x ∷ xs) zero y e = (x, refl, same_Some (f x) y e)
mapped_entry f (x ∷ xs) (suc k) y e = mapped_entry f xs k y e

is_export : (new : Sheet) (r : Reply) (t : Snapshot) → under_sheet new r ≡ Exported t → (s : Snapshot) × (r ≡ Exported s) × (t ≡ record s { sheet = new })
is_export new (Exported s) t e = (s, refl, same_export _ t e)
  where
    same_export : (a b : Snapshot) → Exported a ≡ Exported b → b ≡ a
    same_export a b e = cc
is_export new (Journaled k) t e = absurd (cc)
is_export new (Delivered sent learned) t e = absurd (cc)
is_export new (Started ballot k) t e = absurd (cc)
is_export new Restarted t e = absurd (cc)
is_export new (KeptText text) t e = absurd (cc)
is_export new (Refused refusal) t e = absurd (cc)

module _ (voters observers agents : ℕ) (old new : Sheet) (issuer : Issuer) (events : List Event) (day : ℤ) (limits : IsSheet old) (limits_new : IsSheet new) (names : IsIssuer issuer)
    (goes : GoesOnFrom day old new)
    (priced : AreAllPriced (play (opening voters observers agents old issuer) events).0) (priced_new : AreAllPriced (play (opening voters observers agents new issuer) events).0)
    (period : ℕ) (ends : period_end old.base period ≤ℤ day_start day)
    (alike : (s : Snapshot) → Contains (play (opening voters observers agents old issuer) events).0 (Exported s) → s.period ≡ period → NamesAllAlike old new s.batches)
  where
    abbrev before : List Reply
    before = (play (opening voters observers agents old issuer) events).0

    abbrev after : List Reply
    after = (play (opening voters observers agents new issuer) events).0

    bytes_after : HoldsOfBytes voters observers agents new issuer events (transcript after)
    bytes_after = holds_of_bytes voters observers agents new issuer events limits_new names

    after_is : after ≡ map (under_sheet new) before
    after_is = same_replies voters observers agents old new issuer events goes.base priced priced_new

    exported_too : (s : Snapshot) → Contains before (Exported s) → Contains after (Exported (record s { sheet = new }))
    exported_too s has =
        let at = element_of before (Exported s) has in
        subst (λ rs. Contains rs (Exported (record s { sheet = new }))) (sym after_is)
        (contains_at (map (under_sheet new) before) at.0 (Exported (record s { sheet = new })) (entry_mapped (under_sheet new) before at.0 (Exported s) at.1))

    exported_before : (t : Snapshot) → Contains after (Exported t) → (s : Snapshot) × Contains before (Exported s) × (t ≡ record s { sheet = new })
    exported_before t has =
        let at = element_of (map (under_sheet new) before) (Exported t) (subst (λ rs. Contains rs (Exported t)) after_is has) in
        let from = mapped_entry (under_sheet new) before at.0 (Exported t) at.1 in
        let is = is_export new from.0 t from.2 in
        (is.0, contains_at before at.0 (Exported is.0) (from.1 ∙ ap (λ (r : Reply). Some r) is.1), is.2)

    same_file : (s : Snapshot) → Contains before (Exported s) → s.period ≡ period → file_of (record s { sheet = new }) ≡ file_of s
    same_file s has is =
        file_stays voters observers agents old issuer events s has new day goes (subst (λ p. period_end old.base p ≤ℤ day_start day) (sym is) ends) (alike s has is)

    shown_after : (shown : List ℕ) → Shows (transcript before) period shown → Shows (transcript after) period shown
    shown_after shown it =
        let a = only voters observers agents old issuer events limits names period shown it in
        let there = exported_is_shown after (all_are_shown voters observers agents new issuer events limits_new names) (record a.0 { sheet = new }) (exported_too a.0 a.1) in
        subst (λ p. Shows (transcript after) p shown) a.2 (subst (Shows (transcript after) a.0.period) (same_file a.0 a.1 a.2 ∙ sym a.3) there)

    shown_before : (shown : List ℕ) → Shows (transcript after) period shown → Shows (transcript before) period shown
    shown_before shown it =
        let a = only voters observers agents new issuer events limits_new names period shown it in
        let s = exported_before a.0 a.1 in
        let at = ap (λ (t : Snapshot). t.period) (sym s.2) ∙ a.2 in
        let same = a.3 ∙ ap file_of s.2 ∙ same_file s.0 s.1 at in
        subst (λ p. Shows (transcript before) p shown) at (subst (Shows (transcript before) s.0.period) (sym same) (exported_is_shown before (all_are_shown voters observers agents old issuer events limits names) s.0 s.1))

    pub both_show : (shown : List ℕ) → Shows (transcript before) period shown ↔ Shows (transcript after) period shown
    both_show shown = (shown_after shown, shown_before shown)

    pub both_alike : (one two : List ℕ) → Shows (transcript before) period one → Shows (transcript after) period two → one ≡ two
    both_alike one two here there = bytes_after.agree period one two (shown_after one here) there
