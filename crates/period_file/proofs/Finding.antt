-- Lines taken one by one, up to the first that stands above a file of the period.
use Rattle.std.proofs.Common.{◌≡◌, ◌∙◌, ℕ, false, List, [], ◌∷◌, ◌++◌, Option, Some, None, is_some, refl, sym, ap, subst, append-nil}
use Rattle.std.proofs.lemmas.Bool.{and_from}
use Rattle.metering_model.specs.Transcript.{line}
use Rattle.metering_model.specs.Schedule.{lines_text}
use Rattle.transcript_laws.specs.FirstFiles.{told_behind, words_above}
use Rattle.transcript_laws.proofs.TextLaws.{lines_append, whole_both}
use Rattle.transcript_laws.proofs.FirstFileLaws.{first_behind, untold_first}
use Rattle.line_source.specs.Reading.{Takes}
use Rattle.line_source.proofs.Taking.{takes_on}
use Rattle.period_file.specs.Inner.Reading.{TakesTold, Passes, Finds, IsTold}

pub none_of : (told : Option ℕ) → is_some told ≡ false → told ≡ None
none_of None untrue = refl
none_of (Some n) untrue = absurd (cc)

module _ {period : ℕ} {a b : List ℕ} {r s : ℕ} {l m : Option (List ℕ)} (it : Passes period a b r s l m) {words : List ℕ} (same : words ≡ words_above period) where
  -- the next line is no such line
  pub passes_told : (told : Option ℕ) {c : List ℕ} {t : ℕ} {n : Option (List ℕ)} → told ≡ None → TakesTold words told b c s t m n → Passes period a c r t l n
  passes_told (Some count) is next = absurd (cc)
  passes_told None {c} {t} {n} is next =
      let text = next.taken.text in
      let own : lines_text (text ∷ []) ≡ line text = append-nil (line text) in
      let together : lines_text (it.lines ++ text ∷ []) ≡ lines_text it.lines ++ line text = lines_append it.lines (text ∷ []) ∙ ap (λ t. lines_text it.lines ++ t) own in
      record {
        lines = it.lines ++ text ∷ [];
        untold = record {
          whole = whole_both it.lines (text ∷ []) it.untold.whole (and_from _ _ next.taken.lacks_feed refl);
          none = first_behind period it.lines (text ∷ []) it.untold.none ∙ untold_first period text [] (ap (λ w. told_behind w text) (sym same) ∙ next.is_told);
        };
        takes = subst (Takes a c r t l n) (sym together) (takes_on it.takes next.taken.takes);
      }

  -- it is one
  pub finds_told : {told : Option ℕ} {c : List ℕ} {t : ℕ} {n : Option (List ℕ)} (count : ℕ) → told ≡ Some count → TakesTold words told b c s t m n → Finds period count a c r t l n
  finds_told {told} count is next = record {
    lines = it.lines;
    untold = it.untold;
    above = next.taken.text;
    lacks_feed = next.taken.lacks_feed;
    is_told = subst (λ (w : List ℕ). IsTold (Some count) (told_behind w next.taken.text)) same (subst (λ (o : Option ℕ). IsTold o (told_behind words next.taken.text)) is next.is_told);
    takes = takes_on it.takes next.taken.takes;
  }
