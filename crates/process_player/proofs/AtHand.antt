-- More is read only while lines are wanted that are not ahead: so less than a block stands behind them then.
use Rattle.std.proofs.Common.{◌≡◌, ℕ, ◌<◌, ◌≤◌, Bool, true, false, List, ◌++◌, length, drop, refl, sym, ap, ◌∙◌, subst, arith, leb, leb-true}
use Rattle.std.proofs.lemmas.Bool.{leb-false}
use Rattle.std.proofs.lemmas.List.{length-append, length-drop, take-append-le}
use Rattle.metering_model.specs.BatchReading.{lines_in}
use Rattle.line_source.specs.Lines.{AreBetween, AreShort}
use Rattle.line_source.specs.Reading.{ReadsWhile}
use Rattle.process_player.proofs.Ends.{lines_from}

-- lines that end in front of what came last were there without it
lines_there : {from end count : ℕ} (held last : List ℕ) → AreBetween from end (held ++ last) count → end ≤ length held → count ≤ length (lines_in (drop from held)).lines
lines_there {from} {end} {count} held last it within =
    let here : AreBetween from end held count = record {
      lines = it.lines;
      whole = it.whole;
      counted = it.counted;
      ordered = it.ordered;
      within = within;
      are_lines = sym (ap (drop from) (take-append-le end held last within)) ∙ it.are_lines;
    } in
    let all = ap length (lines_from here) in
    let counted = it.counted in
    omega (arith, all, counted, length-append it.lines (lines_in (drop end held)).lines)

module _ {from end count : ℕ} {a b : List ℕ} (small : length (drop from a) < 65_536) (it : AreBetween from end b count) where
  behind_them : (is_short : List ℕ → Type 0) → ((held : List ℕ) → is_short held → length (lines_in (drop from held)).lines < count)
      → ReadsWhile is_short a b → length (drop end b) < 65_536
  behind_them is_short few last = by (leb (length b) (length a)) refl
    where
      by_end : (held came : List ℕ) → b ≡ held ++ came → length came ≤ 65_536 → is_short held → (there : Bool) → leb end (length held) ≡ there → length (drop end b) < 65_536
      by_end held came is block short true e =
          let enough = lines_there held came (subst (λ t. AreBetween from end t count) is it) (leb-true end (length held) e) in
          let fewer = few held short in
          absurd (omega (arith, enough, fewer))
      by_end held came is block short false e =
          let behind = leb-false end (length held) e in
          omega (arith, behind, block, ap length is, length-append held came, length-drop end b)

      by : (same : Bool) → leb (length b) (length a) ≡ same → length (drop end b) < 65_536
      by true e =
          let low = leb-true (length b) (length a) e in
          let ordered = it.ordered in
          omega (arith, low, ordered, small, length-drop from a, length-drop end b)
      by false e =
          let more = last (leb-false (length b) (length a) e) in
          by_end (a ++ more.before) more.last more.joined more.block more.short (leb end (length (a ++ more.before))) refl

  -- lines that were looked for as far as it takes
  pub at_hand : ReadsWhile (λ held. length (lines_in (drop from held)).lines < count) a b → length (drop end b) < 65_536
  at_hand = behind_them (λ held. length (lines_in (drop from held)).lines < count) (λ held fewer. fewer)

  -- or within so many bytes
  pub at_hand_within : (most : ℕ) → ReadsWhile (AreShort from count most) a b → length (drop end b) < 65_536
  at_hand_within most = behind_them (AreShort from count most) (λ held short. short.0)
