-- More events only add to a transcript, and what its whole lines show, when it is torn off, the whole of it shows.
use Rattle.std.proofs.Common.{◌≡◌, ℕ, true, List, ◌∷◌, ◌++◌, length, sym, ap, subst, ◌∙◌, append_assoc}
use Rattle.std.proofs.lemmas.Bool.{and_from}
use Rattle.std.proofs.lemmas.List.Concat.{flat_map-append}
use Rattle.metering_model.specs.BatchReading.{lines_in}
use Rattle.metering_model.specs.Sheet.{Sheet, Issuer}
use Rattle.metering_model.specs.SheetRules.{IsSheet, IsIssuer}
use Rattle.metering_model.specs.World.{Event, Reply, opening}
use Rattle.metering_model.specs.Step.{play}
use Rattle.metering_model.specs.Transcript.{reply_text, transcript}
use Rattle.metering_model.specs.Schedule.{TextLines, lines_text}
use Rattle.metering_model.proofs.PlayLaws.{replies-append}
use Rattle.metering_model.proofs.Splitting.{lines_give_back}
use Rattle.transcript_laws.specs.Shown.{line_above, Shows}
use Rattle.transcript_laws.proofs.TextLaws.{are_whole, front_of_lines, whole_both, whole_parts}
use Rattle.transcript_laws.proofs.ReplyLines.{transcript_lines, above_lacks_feed, lines_are_whole, transcript_is}
use Rattle.transcript_laws.proofs.EveryTranscript.{replies, all_are_shown}

-- what lines at the front of a text show, the text shows
shown_in_front : (ms : TextLines) (front rest : List ℕ) → are_whole ms ≡ true → lines_text ms ≡ front ++ rest →
    (period : ℕ) (shown : List ℕ) → Shows front period shown → Shows (lines_text ms) period shown
shown_in_front ms front rest whole e period shown it =
    let file = line_above period (length it.lines) ∷ it.lines in
    let outer = whole_parts (it.before ++ it.lines) it.after it.whole in
    let inner = whole_parts it.before it.lines outer.0 in
    let above = and_from _ _ (above_lacks_feed period (length it.lines)) inner.1 in
    let first = whole_both (it.before ++ file) it.after (whole_both it.before file inner.0 above) outer.1 in
    let more = front_of_lines (it.before ++ file ++ it.after) ms rest first whole (e ∙ ap (λ t. t ++ rest) it.is_text) in
    let later = whole_parts (it.before ++ file ++ it.after) more.0 (sym (ap are_whole more.1) ∙ whole) in
    record {
      before = it.before;
      lines = it.lines;
      after = it.after ++ more.0;
      whole = whole_both (it.before ++ it.lines) (it.after ++ more.0) outer.0 (whole_both it.after more.0 outer.1 later.1);
      is_text = ap lines_text (more.1 ∙ append_assoc (it.before ++ file) it.after more.0);
      is_shown = it.is_shown;
    }

pub shown_when_torn : (voters observers agents : ℕ) (sheet : Sheet) (issuer : Issuer) (events : List Event) → IsSheet sheet → IsIssuer issuer →
    (front rest : List ℕ) → transcript (play (opening voters observers agents sheet issuer) events).0 ≡ front ++ rest →
    (period : ℕ) (shown : List ℕ) → Shows front period shown →
    Shows (transcript (play (opening voters observers agents sheet issuer) events).0) period shown
shown_when_torn voters observers agents sheet issuer events limits names front rest e period shown it =
    let now = replies voters observers agents sheet issuer events limits names in
    let is = transcript_is now (all_are_shown voters observers agents sheet issuer events limits names) in
    subst (λ t. Shows t period shown) (sym is) (shown_in_front (transcript_lines now) front rest (lines_are_whole now) (sym is ∙ e) period shown it)

-- The whole lines of a front are a front themselves.
pub shown_by_whole_lines : (voters observers agents : ℕ) (sheet : Sheet) (issuer : Issuer) (events : List Event) → IsSheet sheet → IsIssuer issuer →
    (front rest : List ℕ) → transcript (play (opening voters observers agents sheet issuer) events).0 ≡ front ++ rest →
    (period : ℕ) (shown : List ℕ) → Shows (lines_text (lines_in front).lines) period shown →
    Shows (transcript (play (opening voters observers agents sheet issuer) events).0) period shown
shown_by_whole_lines voters observers agents sheet issuer events limits names front rest e =
    let ls = lines_text (lines_in front).lines in
    shown_when_torn voters observers agents sheet issuer events limits names ls ((lines_in front).rest ++ rest)
    (e ∙ ap (λ t. t ++ rest) (sym (lines_give_back front)) ∙ append_assoc ls (lines_in front).rest rest)

pub text_goes_on : (voters observers agents : ℕ) (sheet : Sheet) (issuer : Issuer) (events more : List Event) → (rest : List ℕ) ×
    (transcript (play (opening voters observers agents sheet issuer) (events ++ more)).0 ≡ transcript (play (opening voters observers agents sheet issuer) events).0 ++ rest)
text_goes_on voters observers agents sheet issuer events more =
    let w = opening voters observers agents sheet issuer in
    let later : List Reply = (play (play w events).1 more).0 in
    (transcript later, ap transcript (replies-append w events more) ∙ flat_map-append reply_text (play w events).0 later)

pub still_shown : (voters observers agents : ℕ) (sheet : Sheet) (issuer : Issuer) (events more : List Event) → IsSheet sheet → IsIssuer issuer →
    (period : ℕ) (shown : List ℕ) → Shows (transcript (play (opening voters observers agents sheet issuer) events).0) period shown →
    Shows (transcript (play (opening voters observers agents sheet issuer) (events ++ more)).0) period shown
still_shown voters observers agents sheet issuer events more limits names period shown it =
    let goes_on = text_goes_on voters observers agents sheet issuer events more in
    shown_when_torn voters observers agents sheet issuer (events ++ more) limits names (transcript (play (opening voters observers agents sheet issuer) events).0) goes_on.0 goes_on.1 period shown it
