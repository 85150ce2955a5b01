-- A log grows with what is kept, and is read as that; and what is kept may take the place of all that it says.
use Rattle.std.proofs.Common.{◌≡◌, ℕ, ◌≤◌, true, List, [], ◌∷◌, ◌++◌, length, Option, Some, None, Ok, codes, decimal}
use Rattle.std.proofs.Common.{refl, sym, ap, ◌∙◌, subst, arith, append-nil, append_assoc}
use Rattle.std.specs.List.{flat_map}
use Rattle.std.proofs.lemmas.List.Concat.{flat_map-append}
use Rattle.std.proofs.lemmas.List.Elements.{All-nil}
use Rattle.std.proofs.lemmas.Option.{same_Some, none-some}
use Rattle.metering_model.specs.BatchReading.{lines_in}
use Rattle.metering_model.specs.KeptText.{HasText, IsCutAmong, KeptAmong, kept_text}
use Rattle.metering_model.specs.Transcript.{line_count}
use Rattle.metering_model.proofs.HoldingLaws.{IsHolding-nil}
use Rattle.metering_model.proofs.StepLaws.{ok_same}
use Rattle.process_laws.specs.LocalSteps.{KeptIs}
use Rattle.log_text.specs.LogText.{GoOn, HasIncrementText, HasLog, Increment, IsLogHead, LogHead, LogTextFault, ReadLog, among_with, base_text, goes_on, head_text, increment_text, kept_after, kept_at_first, log_in, log_text, most_log_bytes, nothing_kept, section_line}
use Rattle.log_text.proofs.KeptFirst.{after_has_text}
use Rattle.log_text.proofs.LogLaws.{AreFew, MayBeFirst, log_read, log_written}
use Rattle.log_text.proofs.WrittenLines.{feeds_end_lines}
use Rattle.group_process.specs.Added.{AddsJust}
use Rattle.process_text.specs.Answers.{words_text}
use Rattle.process_line_laws.specs.Told.{text_added}
use Rattle.process_line_laws.specs.Hosts.{short_log}

-- the log has that head, and what is kept is what it says; how long it is, is not asked
pub record KeepsBy (h : LogHead) (log : List ℕ) (kept : KeptAmong) : Type 0 where
  pub base : Option KeptAmong
  pub increments : List Increment
  pub text : log ≡ log_text h base increments
  pub first : MayBeFirst h.agents base
  pub go_on : GoOn (kept_at_first h base) increments
  pub is : kept ≡ kept_after (kept_at_first h base) increments

-- ---- it grows

go_on_more : (k : KeptAmong) (is : List Increment) (i : Increment) → GoOn k is → HasIncrementText (kept_after k is).agents i
    → goes_on i (kept_after k is) ≡ true
    → GoOn k (is ++ i ∷ [])
go_on_more k [] i go has goes = (has, goes, tt)
go_on_more k (j ∷ is) i go has goes = (go.0, go.1, go_on_more (among_with j k) is i go.2 has goes)

after_more : (k : KeptAmong) (is : List Increment) (i : Increment) → kept_after k (is ++ i ∷ []) ≡ among_with i (kept_after k is)
after_more k [] i = refl
after_more k (j ∷ is) i = after_more (among_with j k) is i

text_more : (h : LogHead) (base : Option KeptAmong) (is : List Increment) (i : Increment)
    → log_text h base is ++ increment_text i ≡ log_text h base (is ++ i ∷ [])
text_more h base is i =
    let front = head_text h ++ base_text base in
    append_assoc front (flat_map increment_text is) (increment_text i)
    ∙ ap (λ t. front ++ t)
    (ap (λ t. flat_map increment_text is ++ t) (sym (append-nil (increment_text i))) ∙ sym (flat_map-append increment_text is (i ∷ [])))

module _ {h : LogHead} {log : List ℕ} {old : KeptAmong} (keeps : KeepsBy h log old) where
  pub keeps_more : (new : KeptAmong) (added : Option Increment) → AddsJust old new added → KeepsBy h (log ++ text_added added) new
  keeps_more new None same = record {
    base = keeps.base;
    increments = keeps.increments;
    text = append-nil log ∙ keeps.text;
    first = keeps.first;
    go_on = keeps.go_on;
    is = same ∙ keeps.is;
  }
  keeps_more new (Some i) adds = record {
    base = keeps.base;
    increments = keeps.increments ++ i ∷ [];
    text = ap (λ t. t ++ increment_text i) keeps.text ∙ text_more h keeps.base keeps.increments i;
    first = keeps.first;
    go_on = go_on_more (kept_at_first h keeps.base) keeps.increments i keeps.go_on
        (subst (λ k. HasIncrementText k.agents i) keeps.is adds.0) (subst (λ k. goes_on i k ≡ true) keeps.is adds.1);
    is = sym adds.2 ∙ ap (among_with i) keeps.is ∙ sym (after_more (kept_at_first h keeps.base) keeps.increments i);
  }

  -- ---- it is read

  pub keeps_read : IsLogHead h → length log ≤ most_log_bytes → log_in log ≡ Ok (record { head = h; kept = old })
  keeps_read head short =
      let has : HasLog h keeps.base keeps.increments =
      record { head = head; first = keeps.first; go_on = keeps.go_on; short = subst (λ t. length t ≤ 4_294_967_296) keeps.text short } in
      ap log_in keeps.text
      ∙ log_written h keeps.base keeps.increments has
      ∙ ap (λ k. Ok (record { head = h; kept = k })) (sym keeps.is)

nothing_has_text : (agents : ℕ) → AreFew agents → HasText (nothing_kept agents)
nothing_has_text agents few = record {
  agents = few;
  round = omega arith;
  periods = omega arith;
  learned = All-nil (IsCutAmong agents);
  promised = λ ballot e. absurd (none-some ballot e);
  vote = λ v e. absurd (none-some v e);
  is_holding = IsHolding-nil;
  in_range = All-nil (λ b. b.agent ≤ agents);
}

first_has_text : (h : LogHead) (base : Option KeptAmong) → IsLogHead h → MayBeFirst h.agents base
    → HasText (kept_at_first h base) × ((kept_at_first h base).agents ≡ h.agents)
first_has_text h None is may = (nothing_has_text h.agents is.agents, refl)
first_has_text h (Some k) is may = may k refl

-- ---- what is kept takes its place

module _ {h : LogHead} {log : List ℕ} {kept : KeptAmong} (keeps : KeepsBy h log kept) where
  pub keeps_text : IsLogHead h → HasText kept × (kept.agents ≡ h.agents)
  keeps_text head =
      let first = first_has_text h keeps.base head keeps.first in
      let last = after_has_text (kept_at_first h keeps.base) keeps.increments first.0 keeps.go_on in
      subst (λ k. HasText k × (k.agents ≡ h.agents)) (sym keeps.is) (last.0, last.1 ∙ first.1)

  pub keeps_shorter : IsLogHead h → KeepsBy h (short_log h (words_text (KeptIs (kept_text kept)))) kept
  keeps_shorter head =
      let text = kept_text kept in
      let said : ℕ → List ℕ = λ n. section_line (codes "kept ") n ++ text in
      record {
        base = Some kept;
        increments = [];
        text = append_assoc (head_text h) (codes "kept ") ((decimal (line_count text) ++ 10 ∷ []) ++ text)
            ∙ ap (λ n. head_text h ++ said n) (feeds_end_lines text)
            ∙ sym (append-nil (head_text h ++ said (length (lines_in text).lines)));
        first = λ k e. subst (λ c. HasText c × (c.agents ≡ h.agents)) (same_Some kept k e) (keeps_text head);
        go_on = tt;
        is = refl;
      }

-- a log that nothing was stored in
pub keeps_nothing : (h : LogHead) → KeepsBy h (head_text h) (nothing_kept h.agents)
keeps_nothing h = record {
  base = None;
  increments = [];
  text = sym (append-nil (head_text h ++ []) ∙ append-nil (head_text h));
  first = λ k e. absurd (none-some k e);
  go_on = tt;
  is = refl;
}

-- what was read of a log is what is kept by it
pub read_is_kept : {h : LogHead} {log : List ℕ} {kept other : KeptAmong} → KeepsBy h log kept → IsLogHead h
    → log_in log ≡ Ok (record { head = h; kept = other }) → other ≡ kept
read_is_kept {h} {log} {kept} {other} keeps head read =
    let is = log_read log (record { head = h; kept = other }) read in
    let short : length log ≤ 4_294_967_296 = subst (λ t. length t ≤ 4_294_967_296) (sym is.2) is.3.short in
    ap (λ (r : ReadLog). r.kept) (ok_same {E = LogTextFault} _ _ (sym read ∙ keeps_read keeps head short))
