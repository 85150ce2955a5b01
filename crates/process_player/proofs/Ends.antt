-- Where a preamble ends that is ahead.
use Rattle.std.proofs.Common.{◌≡◌, ◌≢◌, ℕ, ◌+◌, ◌-◌, ◌<◌, ◌≤◌, true, false, List, [], ◌∷◌, ◌++◌, length, take, drop, Option, Some, None, inl, inr, Ok, Err, codes, refl, sym, ap, ◌∙◌, subst, arith, append_assoc, append-nil}
use Rattle.std.specs.Option.{option_map}
use Rattle.std.specs.Io.KnownBytes.{Consumes, IsAtEnd}
use Rattle.std.proofs.Math.Seq.{drop-append_seam, take-append_seam}
use Rattle.std.proofs.lemmas.List.{drop-append-le, drop-take, length-append, length-drop, length-take-le, take-append-drop, take-append-le, take-take, take_all}
use Rattle.std.proofs.lemmas.List.Concat.{flat_map-append}
use Rattle.std.proofs.lemmas.List.Folds.{list_all-append}
use Rattle.std.proofs.lemmas.Bool.{and_from}
use Rattle.std.proofs.lemmas.Option.{none-some, same_Some}
use Rattle.metering_model.specs.Batch.{lacks}
use Rattle.metering_model.specs.BatchReading.{Lines, is_same, lines_in}
use Rattle.metering_model.specs.Schedule.{TextLines, lines_text}
use Rattle.metering_model.specs.Sheet.{Sheet, Issuer}
use Rattle.metering_model.specs.Transcript.{line}
use Rattle.metering_model.proofs.Splitting.{lines_give_back, lines_of_text}
use Rattle.input_sections.specs.declared.faults.ScheduleFault.{ScheduleFault}
use Rattle.input_sections.specs.Sections.{Unread, left, lines_left, number_behind}
use Rattle.byte_text.proofs.PastLines.{lines_behind}
use Rattle.line_source.specs.declared.lines.Found.{Found}
use Rattle.line_source.specs.declared.lines.Found.TheVariants as found_at
use Rattle.line_source.specs.Lines.{AreBetween, IsFound}
use Rattle.line_source.specs.Reading.{Takes}
use Rattle.log_text.specs.LogText.{ReadLog}
use Rattle.process_player.specs.declared.heads.ProcessKind.{ProcessKind}
use Rattle.process_player.specs.declared.preambles.Judged.{Judged}
use Rattle.process_player.specs.declared.preambles.Judged.TheVariants.{Whole, Part}
use Rattle.process_player.specs.Starts.{Preamble, heads_log, kind_word, preamble_in}
use Rattle.process_player.specs.Refusals.{AtFirst, AtIssuer, AtSecond, AtSheet, EndWrong, IsAll, IsJudged, IsPreamble, IsTooLong, IsUpToWrong, RefusesPreamble, preamble_lines, section_below, section_lines, with_issuer}
use Rattle.process_player.specs.Inner.Fronts.{AreAbsent, AreHeads, IsLast, IsNoPreamble, IsNoSection, IsPreambleShort, IsPreambleTo, IsSection, IsSectionShort, IsSectionTo, IsWrongAt, end_of}
use Rattle.process_player.specs.Inner.Reading.{HasRead, Passes}
use Rattle.process_player.specs.Inner.Refusing.{OfAll}
use Rattle.process_player.proofs.Passing.{passes_front, passes_of}
use Rattle.process_player.proofs.Fronts.{preamble_front, section_on, section_read, section_short}

-- lines stay where more is read
abbrev pub between_more : {from end count : ℕ} {text after : List ℕ} {r s : ℕ} {l m : Option (List ℕ)} → AreBetween from end text count → Takes text after r s l m [] → AreBetween from end after count
between_more {from} {end} {count} {text} {after} it more = record {
  lines = it.lines;
  whole = it.whole;
  counted = it.counted;
  ordered = it.ordered;
  within = let within = it.within in omega (arith, within, ap length (sym more.joined), length-append text more.came);
  are_lines = ap (λ t. drop from (take end t)) (sym more.joined) ∙ ap (drop from) (take-append-le end text more.came it.within) ∙ it.are_lines;
}

-- and where the text ends behind them
abbrev between_up_to : {from end count : ℕ} {text : List ℕ} (to : ℕ) → end ≤ to → to ≤ length text → AreBetween from end text count → AreBetween from end (take to text) count
between_up_to {from} {end} {count} {text} to behind long it = record {
  lines = it.lines;
  whole = it.whole;
  counted = it.counted;
  ordered = it.ordered;
  within = omega (arith, length-take-le to text long);
  are_lines = ap (drop from) (take-take end to text behind) ∙ it.are_lines;
}

module _ {from end count : ℕ} {text : List ℕ} (it : AreBetween from end text count) where
  -- they are the first lines from that place on
  pub lines_from : (lines_in (drop from text)).lines ≡ it.lines ++ (lines_in (drop end text)).lines
  lines_from =
      let rest = drop end text in
      let ordered = it.ordered in
      let size = length-take-le end text it.within in
      let behind : drop from text ≡ lines_text it.lines ++ rest =
      ap (drop from) (sym (take-append-drop end text)) ∙ drop-append-le from (take end text) rest (omega (arith, ordered, size)) ∙ ap (λ t. t ++ rest) it.are_lines in
      ap (λ t. (lines_in t).lines) behind ∙ ap (λ (x : Lines). x.lines) (lines_behind it.lines rest it.whole)

  -- and others behind them
  abbrev two_between : {to more : ℕ} → AreBetween end to text more → AreBetween from to text (count + more)
  two_between {to} {more} next =
      let one = it.ordered in
      let two = next.ordered in
      let size = length-take-le end text it.within in
      record {
        lines = it.lines ++ next.lines;
        whole = list_all-append (lacks 10) it.lines next.lines ∙ and_from _ _ it.whole next.whole;
        counted = length-append it.lines next.lines ∙ (let a = it.counted in let b = next.counted in omega (arith, a, b));
        ordered = omega (arith, one, two);
        within = next.within;
        are_lines =
            ap (drop from) (sym (take-append-drop end (take to text)) ∙ ap (λ t. t ++ drop end (take to text)) (take-take end to text two))
            ∙ drop-append-le from (take end text) (drop end (take to text)) (omega (arith, one, size))
            ∙ ap (λ t. t ++ drop end (take to text)) it.are_lines ∙ ap (λ t. lines_text it.lines ++ t) next.are_lines
            ∙ sym (flat_map-append line it.lines next.lines);
      }

-- where not all lines were found, no more is read
pub absent : (from count : ℕ) (text : List ℕ) (left : Option (List ℕ)) (found : Found) → IsFound from count 16_777_216 text left found → ((end : ℕ) → found ≢ found_at.Lines end) → AreAbsent from count text left
absent from count text left (found_at.Lines end) it none = absurd (none end refl)
absent from count text left found_at.Fewer it none = (it.0, inl it.1)
absent from count text left found_at.CutOff it none = (it.0, inr it.1)

-- ---- a section

one_line : (ls : TextLines) → length ls ≡ 1 → (l : List ℕ) × (ls ≡ l ∷ [])
one_line [] h = absurd (omega (arith, h))
one_line (l ∷ []) h = (l, refl)
one_line (l ∷ m ∷ ls) h = absurd (omega (arith, h))

no_line : (ls : TextLines) → length ls < 1 → ls ≡ []
no_line [] h = refl
no_line (l ∷ ls) h = absurd (omega (arith, h))

-- the line that opens it is not ahead
pub opening_short : (word : List ℕ) (most from : ℕ) (text : List ℕ) → length (lines_in (drop from text)).lines < 1 → IsSectionShort word most from text
opening_short word most from text few = ap (section_lines word most) (no_line (lines_in (drop from text)).lines few)

-- and does not come
pub none_opens : (word : List ℕ) (most from end : ℕ) (text : List ℕ) (left : Option (List ℕ)) → from ≤ length text → end ≡ length text → AreAbsent from 1 text left → IsNoSection word most from end text left
none_opens word most from end text left long is few = record {
  ordered = omega (arith, long, is);
  none = ap (λ t. section_lines word most (lines_in (drop from t)).lines) (take_all end text (omega (arith, is))) ∙ opening_short word most from text few.0;
  judged = inl (is, few.1);
}

module _ {from opening : ℕ} {text : List ℕ} (it : AreBetween from opening text 1) where
  is_one : (l : List ℕ) × (it.lines ≡ l ∷ [])
  is_one = one_line it.lines it.counted

  -- it is that part of the text
  is_part : take (opening - 1 - from) (drop from text) ≡ is_one.0
  is_part =
      let l = is_one.0 in
      let ordered = it.ordered in
      let all : take (opening - from) (drop from text) ≡ line l =
      sym (ap (λ k. drop from (take k text)) (omega (arith, ordered)) ∙ drop-take from (opening - from) text) ∙ it.are_lines ∙ ap lines_text is_one.1 ∙ append-nil (line l) in
      let within = it.within in
      let size = length-take-le (opening - from) (drop from text) (let behind = length-drop from text in omega (arith, behind, within)) in
      let long : opening - from ≡ length l + 1 = sym size ∙ ap length all ∙ length-append l (10 ∷ []) in
      sym (take-take (opening - 1 - from) (opening - from) (drop from text) (omega arith)) ∙ ap (take (opening - 1 - from)) all ∙ ap (λ k. take k (line l)) (omega (arith, long)) ∙ take-append_seam l (10 ∷ [])

  -- its lines are those alone
  are_alone : (lines_in (drop from (take opening text))).lines ≡ is_one.0 ∷ []
  are_alone = ap (λ t. (lines_in t).lines) it.are_lines ∙ ap (λ (x : Lines). x.lines) (lines_of_text it.lines it.whole) ∙ is_one.1

  pub not_said : (word : List ℕ) (most : ℕ) {left : Option (List ℕ)} → number_behind word most (take (opening - 1 - from) (drop from text)) ≡ None → IsNoSection word most from opening text left
  not_said word most {left} none =
      let said : number_behind word most is_one.0 ≡ None = ap (number_behind word most) (sym is_part) ∙ none in
      record {
        ordered = it.ordered;
        none = ap (section_lines word most) are_alone ∙ ap (section_below []) said;
        judged = inr (record { one = is_one.0; between = it; is_one = is_one.1; said = said });
      }

  module _ (word : List ℕ) (most n : ℕ) {after : List ℕ} {r s : ℕ} {l m : Option (List ℕ)} (said : number_behind word most (take (opening - 1 - from) (drop from text)) ≡ Some n) (more : Takes text after r s l m []) where
    says : number_behind word most is_one.0 ≡ Some n
    says = ap (number_behind word most) (sym is_part) ∙ said

    -- fewer lines are ahead than it says
    pub section_still_short : length (lines_in (drop opening after)).lines < n → IsSectionShort word most from after
    section_still_short few =
        let rest = (lines_in (drop opening after)).lines in
        ap (section_lines word most) (lines_from (between_more it more) ∙ ap (λ ls. ls ++ rest) is_one.1) ∙ section_short word most is_one.0 rest n says few

    -- and fewer come
    pub too_few : (end : ℕ) → end ≡ length after → AreAbsent opening n after m → IsNoSection word most from end after m
    too_few end is few =
        let there = between_more it more in
        let ordered = there.ordered in
        let within = there.within in
        record {
          ordered = omega (arith, ordered, within, is);
          none = ap (λ t. section_lines word most (lines_in (drop from t)).lines) (take_all end after (omega (arith, is))) ∙ section_still_short few.0;
          judged = inl (is, few.1);
        }

    pub section_found : (end : ℕ) → AreBetween opening end after n → length (drop end after) < 65_536 → IsSection word most from end after
    section_found end below at_hand = record {
      count = 1 + n;
      between = two_between (between_more it more) below;
      said = ap (λ ls. section_lines word most (ls ++ below.lines)) is_one.1
          ∙ section_read word most is_one.0 below.lines n says (let counted = below.counted in omega (arith, counted));
      at_hand = at_hand;
    }

-- ---- the first two lines

few_lines : (ls : TextLines) → length ls < 2 → preamble_lines ls ≡ None
few_lines [] h = refl
few_lines (l ∷ []) h = refl
few_lines (l ∷ m ∷ ls) h = absurd (omega (arith, h))

-- the first is not ahead
pub first_short : (text : List ℕ) → length (lines_in text).lines < 1 → IsPreambleShort text
first_short text few = few_lines (lines_in text).lines (omega (arith, few))

-- and does not come
pub no_first : (k : ProcessKind) (end : ℕ) (text : List ℕ) (left : Option (List ℕ)) → end ≡ length text → AreAbsent 0 1 text left → IsNoPreamble k end text left
no_first k end text left is few = record {
  none = ap (λ t. preamble_lines (lines_in t).lines) (take_all end text (omega (arith, is))) ∙ first_short text few.0;
  judged = inl (is, few.1);
}

is_front : {end : ℕ} {text : List ℕ} (it : AreBetween 0 end text 1) → take (end - 1) text ≡ (is_one it).0
is_front {end} {text} it = ap (λ n. take n text) (omega arith) ∙ is_part it

-- it is another
pub other_first : (k : ProcessKind) {end : ℕ} {text : List ℕ} {left : Option (List ℕ)} → AreBetween 0 end text 1 → is_same (take (end - 1) text) (kind_word k) ≡ false → IsNoPreamble k end text left
other_first k {end} {text} {left} it other =
    let one = is_one it in
    record {
      none = ap preamble_lines (are_alone it);
      judged = inr (record {
        lines = it.lines;
        whole = it.whole;
        are_lines = it.are_lines;
        wrong = subst (EndWrong k) (sym one.1) (AtFirst one.0 (ap (λ l. is_same l (kind_word k)) (sym (is_front it)) ∙ other));
      });
    }

module _ (k : ProcessKind) {first : ℕ} {text after : List ℕ} {r s : ℕ} {l m : Option (List ℕ)} (it : AreBetween 0 first text 1) (more : Takes text after r s l m []) where
  -- the second is not ahead
  pub second_short : length (lines_in (drop first after)).lines < 1 → IsPreambleShort after
  second_short few =
      let rest = (lines_in (drop first after)).lines in
      let there = between_more it more in
      let all : (lines_in after).lines ≡ there.lines ++ rest = lines_from there in
      let counted = there.counted in
      few_lines (lines_in after).lines (omega (arith, ap length all, length-append there.lines rest, counted, few))

  -- and does not come
  pub no_second : (end : ℕ) → end ≡ length after → AreAbsent first 1 after m → IsNoPreamble k end after m
  no_second end is few = record {
    none = ap (λ t. preamble_lines (lines_in t).lines) (take_all end after (omega (arith, is))) ∙ second_short few.0;
    judged = inl (is, few.1);
  }

  module _ {both : ℕ} (next : AreBetween first both after 1) where
    abbrev two_lines : AreBetween 0 both after 2
    two_lines = two_between (between_more it more) next

    are_two : two_lines.lines ≡ (is_one it).0 ∷ (is_one next).0 ∷ []
    are_two = ap (λ ls. ls ++ next.lines) (is_one it).1 ∙ ap (λ ls. (is_one it).0 ∷ ls) (is_one next).1

    -- the first is the kind's
    right_first : is_same (take (first - 1) text) (kind_word k) ≡ true → is_same (is_one it).0 (kind_word k) ≡ true
    right_first is_first = ap (λ l. is_same l (kind_word k)) (sym (is_front it)) ∙ is_first

    -- the second heads no log of such a process
    pub other_second : {left : Option (List ℕ)} → is_same (take (first - 1) text) (kind_word k) ≡ true → heads_log k (take (both - 1 - first) (drop first after)) ≡ false → IsNoPreamble k both after left
    other_second is_first other = record {
      none =
          ap (λ t. preamble_lines (lines_in t).lines) two_lines.are_lines ∙ ap (λ (x : Lines). preamble_lines x.lines) (lines_of_text two_lines.lines two_lines.whole) ∙ ap preamble_lines are_two;
      judged = inr (record {
        lines = two_lines.lines;
        whole = two_lines.whole;
        are_lines = two_lines.are_lines;
        wrong = subst (EndWrong k) (sym are_two) (AtSecond (is_one it).0 (is_one next).0 (right_first is_first) (ap (heads_log k) (sym (is_part next)) ∙ other));
      });
    }

    -- both are there
    pub heads_found : is_same (take (first - 1) text) (kind_word k) ≡ true → heads_log k (take (both - 1 - first) (drop first after)) ≡ true
        → length (drop both after) < 65_536 → AreHeads k both after
    heads_found is_first is_head at_hand = record {
      between = two_lines;
      one = (is_one it).0;
      own = (is_one next).0;
      are_these = are_two;
      right = (right_first is_first, ap (heads_log k) (sym (is_part next)) ∙ is_head);
      at_hand = at_hand;
    }

-- ---- a preamble

behind_two : (ls rs : TextLines) (n : ℕ) → length ls ≡ n → drop n (ls ++ rs) ≡ rs
behind_two ls rs n size = ap (λ k. drop k (ls ++ rs)) (sym size) ∙ drop-append_seam ls rs

-- two lines, and no sheet behind them
no_sheet_lines : {head : ℕ} {text : List ℕ} → AreBetween 0 head text 2 → section_lines (codes "sheet ") 200_000 (lines_in (drop head text)).lines ≡ None → preamble_lines (lines_in text).lines ≡ None
no_sheet_lines {head} {text} it none =
    let rest = (lines_in (drop head text)).lines in
    ap preamble_lines (lines_from it)
    ∙ ap (with_issuer (it.lines ++ rest)) (ap (section_lines (codes "sheet ") 200_000) (behind_two it.lines rest 2 it.counted) ∙ none)

-- whole lines up to a last one
wrong_at : (k : ProcessKind) {from end count : ℕ} {text one : List ℕ} (front : AreBetween 0 from text count) (last : AreBetween from end text 1)
    → last.lines ≡ one ∷ [] → EndWrong k (front.lines ++ one ∷ []) → IsWrongAt k end text
wrong_at k {from} {end} {count} {text} {one} front last is wrong =
    let both = two_between front last in
    record {
      lines = both.lines;
      whole = both.whole;
      are_lines = both.are_lines;
      wrong = subst (λ ls. EndWrong k (front.lines ++ ls)) (sym is) wrong;
    }

module _ (k : ProcessKind) {head : ℕ} {text after : List ℕ} {r s : ℕ} {l m : Option (List ℕ)} (heads : AreHeads k head text) (more : Takes text after r s l m []) where
  abbrev it : AreBetween 0 head text 2
  it = heads.between

  abbrev on : AreBetween 0 head after 2
  on = between_more it more

  -- the sheet is not ahead
  pub sheet_short : IsSectionShort (codes "sheet ") 200_000 head after → IsPreambleShort after
  sheet_short = no_sheet_lines on

  -- the line behind them opens no sheet
  sheet_wrong : (one : List ℕ) → number_behind (codes "sheet ") 200_000 one ≡ None → EndWrong k (it.lines ++ one ∷ [])
  sheet_wrong one none = subst (λ ls. EndWrong k (ls ++ one ∷ [])) (sym heads.are_these) (AtSheet heads.one heads.own one heads.right none)

  pub no_sheet : (end : ℕ) → end ≤ length after → IsNoSection (codes "sheet ") 200_000 head end after m → IsNoPreamble k end after m
  no_sheet end within none = record {
    none = no_sheet_lines (between_up_to end none.ordered within on) none.none;
    judged = elim none.judged [
      | inl last ↦ inl last
      | inr other ↦ inr (wrong_at k on other.between other.is_one (sheet_wrong other.one other.said))
    ];
  }

  module _ {sheet : ℕ} (first : IsSection (codes "sheet ") 200_000 head sheet after) {last : List ℕ} {t : ℕ} {n : Option (List ℕ)} (again : Takes after last s t m n []) where
    abbrev last_head : AreBetween 0 head last 2
    last_head = between_more on again

    abbrev last_sheet : AreBetween head sheet last first.count
    last_sheet = between_more first.between again

    abbrev front_lines : TextLines
    front_lines = it.lines ++ first.between.lines

    front_size : length front_lines ≡ 2 + first.count
    front_size = length-append it.lines first.between.lines ∙ (let one = it.counted in let two = first.between.counted in omega (arith, one, two))

    -- two lines, the sheet and whatever stands behind it
    of_sheet : (rest : TextLines) → section_lines (codes "sheet ") 200_000 (drop 2 (front_lines ++ rest)) ≡ Some first.count
    of_sheet rest =
        let a = it.lines in
        let b = first.between.lines in
        ap (λ x. section_lines (codes "sheet ") 200_000 (drop 2 x)) (append_assoc a b rest) ∙ ap (section_lines (codes "sheet ") 200_000) (behind_two a (b ++ rest) 2 it.counted)
        ∙ section_on (codes "sheet ") 200_000 b rest first.count first.said

    by_issuer : (rest : TextLines) → preamble_lines (front_lines ++ rest) ≡ option_map (λ k. 2 + first.count + k) (section_lines (codes "issuer ") 100 rest)
    by_issuer rest =
        ap (with_issuer (front_lines ++ rest)) (of_sheet rest)
        ∙ ap (λ x. option_map (λ k. 2 + first.count + k) (section_lines (codes "issuer ") 100 x)) (behind_two front_lines rest (2 + first.count) front_size)

    -- the issuer is not ahead
    pub issuer_short : IsSectionShort (codes "issuer ") 100 sheet last → IsPreambleShort last
    issuer_short none =
        ap preamble_lines (lines_from (two_between last_head last_sheet)) ∙ by_issuer (lines_in (drop sheet last)).lines ∙ ap (option_map (λ k. 2 + first.count + k)) none

    -- the line behind them opens no issuer
    issuer_wrong : (one : List ℕ) → number_behind (codes "issuer ") 100 one ≡ None → EndWrong k (front_lines ++ one ∷ [])
    issuer_wrong one none =
        let sheet_lines = first.between.lines in
        subst (λ ls. EndWrong k ((ls ++ sheet_lines) ++ one ∷ [])) (sym heads.are_these)
        (AtIssuer heads.one heads.own sheet_lines one heads.right (first.said ∙ ap Some (sym first.between.counted)) none)

    pub preamble_found : (judged : Judged) → end_of judged ≤ length last → IsSectionTo (codes "issuer ") 100 sheet last n judged → IsPreambleTo k last n judged
    preamble_found (Whole end) within next = record {
      count = 2 + first.count + next.count;
      between = two_between (two_between last_head last_sheet) next.between;
      said = by_issuer next.between.lines ∙ ap (option_map (λ k. 2 + first.count + k)) next.said;
      at_hand = next.at_hand;
    }
    preamble_found (Part end) within none = record {
      none =
          ap preamble_lines (lines_from (between_up_to end none.ordered within (two_between last_head last_sheet)))
          ∙ by_issuer (lines_in (drop sheet (take end last))).lines ∙ ap (option_map (λ k. 2 + first.count + k)) none.none;
      judged = elim none.judged [
        | inl end ↦ inl end
        | inr other ↦ inr (wrong_at k (two_between last_head last_sheet) other.between other.is_one (issuer_wrong other.one other.said))
      ];
    }

-- ---- what was read up to there

nothing_behind : (judged : Judged) (text : List ℕ) (l : Option (List ℕ)) (k : ProcessKind) (p : Preamble) → IsPreambleTo k text l judged
    → preamble_in k (take (end_of judged) text) ≡ Ok p → left p.rest ≡ []
nothing_behind (Part end) text l k p none h =
    let front = preamble_front k (take end text) p h in
    absurd (none-some front.count (sym none.none ∙ front.said))
nothing_behind (Whole end) text l k p is h =
    let front = preamble_front k (take end text) p h in
    let ls = is.between.lines in
    let all : lines_in (take end text) ≡ record { lines = ls; rest = [] } = ap lines_in is.between.are_lines ∙ lines_of_text ls is.between.whole in
    let same : front.count ≡ is.count = same_Some front.count is.count (sym front.said ∙ ap (λ (x : Lines). preamble_lines x.lines) all ∙ is.said) in
    let lines : lines_left p.rest ≡ [] =
    front.lines ∙ ap (λ (x : Lines). drop front.count x.lines) all ∙ ap (λ n. drop n ls) (same ∙ sym is.between.counted) ∙ ap (drop (length ls)) (sym (append-nil ls)) ∙ drop-append_seam ls [] in
    sym (lines_give_back (left p.rest)) ∙ ap (λ xs. lines_text xs ++ (lines_in (left p.rest)).rest) lines ∙ front.piece ∙ ap (λ (x : Lines). x.rest) all

-- less than a block stands behind one that is read
rest_at_hand : (judged : Judged) (text : List ℕ) (l : Option (List ℕ)) (k : ProcessKind) (p : Preamble) → IsPreambleTo k text l judged
    → preamble_in k (take (end_of judged) text) ≡ Ok p → length (drop (end_of judged) text) < 65_536
rest_at_hand (Part end) text l k p none h =
    let front = preamble_front k (take end text) p h in
    absurd (none-some front.count (sym none.none ∙ front.said))
rest_at_hand (Whole end) text l k p is h = is.at_hand

module _ (k : ProcessKind) {a a' b : List ℕ} {r s : ℕ} {l m : Option (List ℕ)} (same : a' ≡ a) (takes : Takes a' b r s l m []) (judged : Judged) (there : IsPreambleTo k b m judged) (end : ℕ) (is_end : end ≡ end_of judged) where
  -- it is taken
  pub preamble_taken : (own : ReadLog) (sheet : Sheet) (issuer : Issuer) (next : ℕ) {c : List ℕ}
      → (rest : Unread) × (preamble_in k (take end b) ≡ Ok (record { own = own; sheet = sheet; issuer = issuer; rest = rest })) × (rest.line ≡ next)
      → c ≡ drop end b → HasRead k own sheet issuer next a c l m
  preamble_taken own sheet issuer next {c} read behind = record {
    text = take end b;
    behind = read.0;
    is_read = read.1;
    whole = nothing_behind judged b m k (record { own = own; sheet = sheet; issuer = issuer; rest = read.0 }) there (ap (λ n. preamble_in k (take n b)) (sym is_end) ∙ read.1);
    counted = read.2;
    passes = subst (λ x. Passes x c l m (take end b)) same
        (passes_front (passes_of takes) c (take end b) (sym (take-append-drop end b) ∙ ap (λ t. take end b ++ t) (sym behind)));
    at_hand =
        subst (λ t. length t < 65_536) (ap (λ n. drop n b) (sym is_end) ∙ sym behind)
        (rest_at_hand judged b m k (record { own = own; sheet = sheet; issuer = issuer; rest = read.0 }) there (ap (λ n. preamble_in k (take n b)) (sym is_end) ∙ read.1));
  }

  -- all that is ahead is judged: no more comes, or it is too long
  is_last : (at : ℕ) → preamble_lines (lines_in (take at b)).lines ≡ None → IsLast at b m → {ys : List ℕ} → m ≡ Some ys → IsJudged k (take at b) (drop at b ++ ys)
  is_last at none last {ys} is = elim last.1 [
    | inl over ↦
        let no_more : ys ≡ [] = subst IsAtEnd is over in
        let nothing : drop at b ++ ys ≡ [] =
        ap (λ n. drop n b ++ ys) last.0 ∙ ap (λ t. drop (length b) t ++ ys) (sym (append-nil b)) ∙ ap (λ t. t ++ ys) (drop-append_seam b []) ∙ no_more in
        subst (λ t. IsJudged k (take at b) t) (sym nothing) (IsAll (take at b) none)
    | inr long ↦ IsTooLong (take at b) (drop at b ++ ys) (let size = ap length (take_all at b (omega (arith, last.0))) in omega (arith, long, size)) none
  ]

  -- or it is refused
  is_judged : (at : Judged) → IsPreambleTo k b m at → {ys : List ℕ} → m ≡ Some ys → IsJudged k (take (end_of at) b) (drop (end_of at) b ++ ys)
  is_judged (Whole at) it {ys} is =
      let ls = it.between.lines in
      subst (λ t. IsJudged k t (drop at b ++ ys)) (sym it.between.are_lines) (IsPreamble ls (drop at b ++ ys) it.between.whole (it.said ∙ ap Some (sym it.between.counted)))
  is_judged (Part at) it {ys} is = elim it.judged [
    | inl last ↦ is_last at it.none last is
    | inr wrong ↦ subst (λ t. IsJudged k t (drop at b ++ ys)) (sym wrong.are_lines) (IsUpToWrong wrong.lines (drop at b ++ ys) wrong.whole wrong.wrong)
  ]

  pub preamble_refused : (why : ScheduleFault) → preamble_in k (take end b) ≡ Err why → OfAll (λ text. RefusesPreamble k text why) a l
  preamble_refused why refused = refused_in l m refl refl
    where
      refused_in : (l' m' : Option (List ℕ)) → l ≡ l' → m ≡ m' → OfAll (λ text. RefusesPreamble k text why) a l'
      refused_in None m' is is' = tt
      refused_in (Some xs) None is is' = absurd (subst (λ o. Consumes o None takes.came) is (subst (λ o. Consumes l o takes.came) is' takes.consumed))
      refused_in (Some xs) (Some ys) is is' =
          let gone : xs ≡ takes.came ++ ys = subst (λ o. Consumes o (Some ys) takes.came) is (subst (λ o. Consumes l o takes.came) is' takes.consumed) in
          record {
            front = take end b;
            more = drop end b ++ ys;
            joined =
                ap (λ t. t ++ xs) (sym same) ∙ ap (λ t. a' ++ t) gone ∙ sym (append_assoc a' takes.came ys) ∙ ap (λ t. t ++ ys) takes.joined
                ∙ ap (λ t. t ++ ys) (sym (take-append-drop end b)) ∙ append_assoc (take end b) (drop end b) ys;
            judged = subst (λ n. IsJudged k (take n b) (drop n b ++ ys)) (sym is_end) (is_judged judged there is');
            refused = refused;
          }
