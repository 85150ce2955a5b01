-- Where all exports of a run are of months that are over, its whole transcript stays.
use Rattle.std.proofs.Common.{◌≡◌, ℕ, List, [], ◌∷◌, ◌++◌, map, refl, ap, ap₂, subst, ◌∙◌, ◌≤ℤ◌, ℤ, Contains, codes}
use Rattle.std.specs.Prelude.{All}
use Rattle.std.proofs.lemmas.List.Elements.{All-head, All-tail, All-weaker, All-contains_itself}
use Rattle.metering_model.specs.Dates.{period_end}
use Rattle.metering_model.specs.Sheet.{Sheet, Issuer}
use Rattle.metering_model.specs.World.{Event, Snapshot, Reply, Journaled, Delivered, Started, Restarted, Exported, KeptText, Refused, opening}
use Rattle.metering_model.specs.Step.{play}
use Rattle.metering_model.specs.Transcript.{line, with_number, line_count, file_of, reply_text, transcript}
use Rattle.sheet_laws.specs.Longer.{GoesOnFrom, NamesAllAlike, day_start}
use Rattle.sheet_laws.specs.Runs.{under_sheet, AreAllPriced}
use Rattle.sheet_laws.proofs.Months.{file_stays}
use Rattle.sheet_laws.proofs.TwoRuns.{same_replies}

module _ (new : Sheet) where
  abbrev HasSameText : Reply → Type 0
  HasSameText r = reply_text (under_sheet new r) ≡ reply_text r

  same_text : (r : Reply) → ((s : Snapshot) → r ≡ Exported s → file_of (record s { sheet = new }) ≡ file_of s) → HasSameText r
  same_text (Exported s) same =
      ap (λ t. line (with_number (codes "exported period ") s.period ++ with_number (codes " lines ") (line_count t)) ++ t) (same s refl)
  same_text (Journaled k) same = refl
  same_text (Delivered sent learned) same = refl
  same_text (Started ballot k) same = refl
  same_text Restarted same = refl
  same_text (KeptText text) same = refl
  same_text (Refused refusal) same = refl

  same_texts : (rs : List Reply) → All HasSameText rs → transcript (map (under_sheet new) rs) ≡ transcript rs
  same_texts [] all = refl
  same_texts (r ∷ rs) all = ap₂ ◌++◌ (All-head HasSameText r rs all) (same_texts rs (All-tail HasSameText r rs all))

pub transcript_stays : (voters observers agents : ℕ) (old new : Sheet) (issuer : Issuer) (events : List Event) (day : ℤ) → GoesOnFrom day old new →
    AreAllPriced (play (opening voters observers agents old issuer) events).0 →
    AreAllPriced (play (opening voters observers agents new issuer) events).0 →
    ((s : Snapshot) → Contains (play (opening voters observers agents old issuer) events).0 (Exported s) → (period_end old.base s.period ≤ℤ day_start day) × NamesAllAlike old new s.batches) →
    transcript (play (opening voters observers agents new issuer) events).0 ≡ transcript (play (opening voters observers agents old issuer) events).0
transcript_stays voters observers agents old new issuer events day goes priced priced_new over =
    let rs = (play (opening voters observers agents old issuer) events).0 in
    ap transcript (same_replies voters observers agents old new issuer events goes.base priced priced_new)
    ∙ same_texts new rs
    (All-weaker (Contains rs) (HasSameText new)
    (λ r has. same_text new r (λ s e.
    let there = subst (Contains rs) e has in
    let it = over s there in
    file_stays voters observers agents old issuer events s there new day goes it.0 it.1))
    rs (All-contains_itself rs))
