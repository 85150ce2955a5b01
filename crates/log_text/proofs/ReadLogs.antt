-- A log is read increment by increment, from its head line to its end.
use Rattle.std.proofs.Common.{◌≡◌, ℕ, zero, suc, ◌+◌, ◌-◌, ◌<◌, ◌≤◌, ◌&&◌, Bool, true, false, List, [], ◌∷◌, length, take, drop, Option, Some, None, Result, Ok, Err, cond, refl, sym, ap, ap₂, subst, ◌∙◌, arith, nat_le, le-leb}
use Rattle.std.specs.Prelude.{codes}
use Rattle.std.specs.Option.{option_map}
use Rattle.std.proofs.lemmas.Option.{none-some, same_Some}
use Rattle.metering_model.specs.FirstFailure.{◌>>=◌, holds_or}
use Rattle.metering_model.specs.Limits.{most_journal_lines}
use Rattle.metering_model.specs.Batch.{Batch, is_empty}
use Rattle.metering_model.specs.BatchReading.{Lines, fields_in, lines_in, with_line}
use Rattle.metering_model.specs.KeptText.{KeptAmong}
use Rattle.byte_text.specs.Lines.{IsPast}
use Rattle.byte_text.proofs.LineFeeds.{few}
use Rattle.node_kept.specs.Kept.{IsKept}
use Rattle.node_kept.proofs.WholeTexts.{nothing_left}
use Rattle.packet_text.proofs.OptionSteps.{chosen_first, mapped_some}
use Rattle.log_text.specs.LogText.{ReadBase, Increment, BeginsRound, SetsBallots, Learns, Takes, KeptThere, LogCode, LogHead, LogTextFault, ReadLog}
use Rattle.log_text.specs.LogText.{BadHead, BadIncrement, BadKept, TooLong, Torn, among_with, at_log_line, first_increment, base_in, goes_on, head_in}
use Rattle.log_text.specs.LogText.{increments_in, line_increment_in, lines_of_increment, log_below, log_in, log_of_lines, most_log_bytes, section_in}
use Rattle.log_text.specs.Faults.{BeginsWithHead, IsFaultOf, first_head}
use Rattle.log_text.specs.declared.faults.LogFault.{LogFault}
use Rattle.log_text.specs.declared.faults.LogFault.TheVariants.{Refused, OutOfMemory}
use Rattle.log_text.specs.Inner.Reading.{HasNoStep, IfTold, IsBaseText, IsFirst, IsStep, all_below, base_before, base_of, batch_of_text, gone_on, kept_below, when_whole}
use Rattle.log_text.proofs.WrittenLines.{feeds_end_lines}
use Rattle.log_text.proofs.ReadSections.{batch_count, batch_first, is_torn, line_first, no_batch, no_line, one_line}

-- ---- one step

some_lines : (i : Increment) → 1 ≤ lines_of_increment i
some_lines (BeginsRound round) = omega arith
some_lines (SetsBallots period acceptor) = omega arith
some_lines (Learns period cut) = omega arith
some_lines (Takes b) = omega arith

abbrev behind_first : (most line : ℕ) → KeptAmong → Increment × List (List ℕ) → Result KeptThere LogTextFault
behind_first most line k one = at_log_line line (holds_or (goes_on one.0 k) BadIncrement) >>= λ u. increments_in most (line + lines_of_increment one.0) (among_with one.0 k) one.1

-- a step goes on with what is left
step_same : (most line : ℕ) (k next : KeptAmong) (here below left : List ℕ) (n : ℕ) → IsStep k here below next n left
    → increments_in (suc most) line k (here ∷ (lines_in below).lines) ≡ increments_in most (line + n) next (lines_in left).lines
step_same most line k next here below left n s =
    ap (λ (r : Result (Increment × List (List ℕ)) LogCode). at_log_line line r >>= behind_first most line k) s.first.read
    ∙ ap (λ b. at_log_line line (holds_or b BadIncrement) >>= λ u. increments_in most (line + lines_of_increment s.increment) (among_with s.increment k) (lines_in left).lines) s.goes
    ∙ ap₂ (λ m x. increments_in most (line + m) x (lines_in left).lines) (sym s.lines_of) (sym s.kept)

-- no increment stands there
pub unread_step : (k : KeptAmong) (line : ℕ) (here below : List ℕ) (f : LogTextFault) → at_log_line line (first_increment k.agents here (lines_in below).lines) ≡ Err f → HasNoStep k line here below f
unread_step k line here below f e = λ most. ap (λ (r : Result (Increment × List (List ℕ)) LogTextFault). r >>= behind_first most line k) e

-- one stands there that does not go on
pub refused_step : (k : KeptAmong) (line : ℕ) (here below left : List ℕ) (i : Increment) → IsFirst k.agents here below i left → goes_on i k ≡ false
    → HasNoStep k line here below (record { code = BadIncrement; line = line })
refused_step k line here below left i first lacking = λ most.
    ap (λ (r : Result (Increment × List (List ℕ)) LogCode). at_log_line line r >>= behind_first most line k) first.read
    ∙ ap (λ b. at_log_line line (holds_or b BadIncrement) >>= λ u. increments_in most (line + lines_of_increment i) (among_with i k) (lines_in left).lines) lacking

-- ---- what was added, or not

-- what was added was there, and goes on
gone : (k next : KeptAmong) (o : Option Increment) → gone_on k o ≡ Some next → (i : Increment) × (o ≡ Some i) × (goes_on i k ≡ true) × (next ≡ among_with i k)
gone k next None e = absurd (none-some next e)
gone k next (Some i) e = let t = chosen_first (goes_on i k) (Some (among_with i k)) next e in (i, refl, t.0, sym (same_Some (among_with i k) next t.1))

not_gone : {A : Type 0} (b : Bool) (x : A) → cond b (Some x) None ≡ None → b ≡ false
not_gone true x e = absurd (none-some x (sym e))
not_gone false x e = refl

step_of : (k next : KeptAmong) (here below left : List ℕ) (o : Option Increment) (lines : ℕ) → gone_on k o ≡ Some next → IsKept next → ((i : Increment) → o ≡ Some i → IsFirst k.agents here below i left × (lines ≡ lines_of_increment i))
    → IsStep k here below next lines left
step_of k next here below left o lines e is first =
    let g = gone k next o e in
    let f = first g.0 g.1 in
    record { increment = g.0; first = f.0; goes = g.2; kept = g.3; lines_of = f.1; is_kept = is }

no_step_of : (k : KeptAmong) (line : ℕ) (here below left : List ℕ) (o : Option Increment) → gone_on k o ≡ None → (o ≡ None → first_increment k.agents here (lines_in below).lines ≡ Err BadIncrement)
    → ((i : Increment) → o ≡ Some i → IsFirst k.agents here below i left) → HasNoStep k line here below (record { code = BadIncrement; line = line })
no_step_of k line here below left None e none first = unread_step k line here below (record { code = BadIncrement; line = line }) (ap (at_log_line line) (none refl))
no_step_of k line here below left (Some i) e none first = refused_step k line here below left i (first i refl) (not_gone (goes_on i k) (among_with i k) e)

module _ (k : KeptAmong) (line : ℕ) (here below : List ℕ) where
  -- by the line alone
  module _ (none : section_in (codes "batch ") most_journal_lines here ≡ None) where
    abbrev alone : Option Increment
    alone = line_increment_in k.agents (fields_in here)

    pub line_step : (next : KeptAmong) → (gone_on k alone ≡ Some next) × IsKept next → IsStep k here below next 1 below
    line_step next e = step_of k next here below below alone 1 e.0 e.1 (λ i read. (line_first k.agents here below i none read, sym (one_line k.agents (fields_in here) i read)))

    pub no_line_step : gone_on k alone ≡ None → HasNoStep k line here below (record { code = BadIncrement; line = line })
    no_line_step e = no_step_of k line here below below alone e (no_line k.agents here below none) (λ i read. line_first k.agents here below i none read)

  -- by the lines that it says to be below it
  module _ (n : ℕ) (said : section_in (codes "batch ") most_journal_lines here ≡ Some n) where
    pub torn_step : length (lines_in below).lines < n → HasNoStep k line here below (record { code = Torn; line = line })
    torn_step low = unread_step k line here below (record { code = Torn; line = line }) (ap (at_log_line line) (is_torn k.agents here below n said low))

    module _ (at : ℕ) (past : IsPast below n at) (front left : List ℕ) (is_front : front ≡ take at below) (is_left : left ≡ drop at below) where
      abbrev batch : Option Increment
      batch = option_map Takes (batch_of_text n front)

      batch_there : (i : Increment) → batch ≡ Some i → IsFirst k.agents here below i left × (1 + n ≡ lines_of_increment i)
      batch_there i read =
          let b = mapped_some Takes (batch_of_text n front) i read in
          subst (λ j. IsFirst k.agents here below j left × (1 + n ≡ lines_of_increment j)) b.2
          (batch_first k.agents here below n said at past front is_front b.0 left b.1 is_left, ap (λ m. 1 + m) (batch_count n front b.0 b.1))

      pub batch_step : (next : KeptAmong) (lines : ℕ) → lines ≡ n → (gone_on k batch ≡ Some next) × IsKept next → IsStep k here below next (1 + lines) left
      batch_step next lines same e = step_of k next here below left batch (1 + lines) e.0 e.1 (λ i read. let f = batch_there i read in (f.0, ap (λ m. 1 + m) same ∙ f.1))

      pub no_batch_step : gone_on k batch ≡ None → HasNoStep k line here below (record { code = BadIncrement; line = line })
      no_batch_step e = no_step_of k line here below left batch e (λ none. no_batch k.agents here below n said at past front is_front (unmapped (batch_of_text n front) none)) (λ i read. (batch_there i read).0)
        where
          unmapped : (o : Option Batch) → option_map Takes o ≡ None → o ≡ None
          unmapped None e = refl
          unmapped (Some b) e = absurd (none-some (Takes b) (sym e))

-- ---- all of them

-- What is read of the text is what is read of the rest, from that line on, with this kept.
pub record ReadsOn (text : List ℕ) (first : ℕ) (before : KeptAmong) (line : ℕ) (k : KeptAmong) (rest : List ℕ) : Type 0 where
  pub most : ℕ
  pub enough : length (lines_in rest).lines ≤ most
  pub same : increments_in (length (lines_in text).lines) first before (lines_in text).lines ≡ increments_in most line k (lines_in rest).lines
  pub behind : (lines_in rest).rest ≡ (lines_in text).rest
  pub lines_of : line + length (lines_in rest).lines ≡ first + length (lines_in text).lines
  pub is_kept : IsKept k

pub reads_first : (text : List ℕ) (first : ℕ) (k : KeptAmong) → IsKept k → ReadsOn text first k first k text
reads_first text first k is = record { most = length (lines_in text).lines; enough = omega arith; same = refl; behind = refl; lines_of = refl; is_kept = is }

module _ (text : List ℕ) (first : ℕ) (before : KeptAmong) (line : ℕ) (k : KeptAmong) (rest : List ℕ) (on : ReadsOn text first before line k rest) where
  module _ (here below : List ℕ) (cut : lines_in rest ≡ with_line here (lines_in below)) where
    ls : (lines_in rest).lines ≡ here ∷ (lines_in below).lines
    ls = ap (λ (x : Lines). x.lines) cut

    more : on.most ≡ suc (on.most - 1)
    more = let enough = on.enough in omega (arith, enough, ap length ls)

    from_here : increments_in (length (lines_in text).lines) first before (lines_in text).lines ≡ increments_in (suc (on.most - 1)) line k (here ∷ (lines_in below).lines)
    from_here = on.same ∙ ap₂ (λ n xs. increments_in n line k xs) more ls

    pub step_fault : (f : LogTextFault) → HasNoStep k line here below f → kept_below first before text ≡ Err f
    step_fault f lacking = ap (λ (r : Result KeptThere LogTextFault). r >>= when_whole text) (from_here ∙ lacking (on.most - 1))

    module _ (next : KeptAmong) (n : ℕ) (left : List ℕ) (s : IsStep k here below next n left) where
      pub step_less : length (lines_in left).lines < length (lines_in rest).lines
      step_less = let of = s.first.lines_of in let some = some_lines s.increment in omega (arith, of, some, ap length ls)

      pub step_more : ReadsOn text first before (line + n) next left
      step_more =
          let of = s.first.lines_of in
          let some = some_lines s.increment in
          let enough = on.enough in
          let all = on.lines_of in
          let many = s.lines_of in
          record {
            most = on.most - 1;
            enough = omega (arith, of, some, enough, ap length ls);
            same = from_here ∙ step_same (on.most - 1) line k next here below left n s;
            behind = s.first.rest ∙ sym (ap (λ (x : Lines). x.rest) cut) ∙ on.behind;
            lines_of = omega (arith, of, all, many, ap length ls);
            is_kept = s.is_kept;
          }

  module _ (none : (lines_in rest).lines ≡ []) where
    at_end : kept_below first before text ≡ (at_log_line line (holds_or (is_empty rest) Torn) >>= λ u. Ok k)
    at_end =
        let whole : is_empty (lines_in text).rest ≡ is_empty rest =
        ap is_empty (sym on.behind) ∙ ap (λ (xs : List (List ℕ)). is_empty xs && is_empty (lines_in rest).rest) (sym none) ∙ nothing_left rest in
        ap (λ (r : Result KeptThere LogTextFault). r >>= when_whole text) (on.same ∙ ap (increments_in on.most line k) none ∙ no_more on.most)
        ∙ ap (λ b. at_log_line line (holds_or b Torn) >>= λ u. Ok k) whole
      where
        no_more : (most : ℕ) → increments_in most line k [] ≡ Ok (record { kept = k; line = line })
        no_more zero = refl
        no_more (suc most) = refl

    pub all_read : is_empty rest ≡ true → kept_below first before text ≡ Ok k
    all_read e = at_end ∙ ap (λ b. at_log_line line (holds_or b Torn) >>= λ u. Ok k) e

    pub torn_end : is_empty rest ≡ false → kept_below first before text ≡ Err (record { code = Torn; line = line })
    torn_end e = at_end ∙ ap (λ b. at_log_line line (holds_or b Torn) >>= λ u. Ok k) e

-- ---- below the head line

abbrev and_then : List ℕ → ReadBase → Result KeptAmong LogTextFault
and_then text first = increments_in (length first.left) first.line first.kept first.left >>= when_whole text

module _ (agents : ℕ) (text : List ℕ) (lines : ℕ) (front : List ℕ) (line : ℕ) (left : List ℕ) (at : IsBaseText text lines front line left) where
  pub below_is : (k : KeptAmong) → base_of agents lines front ≡ Some k → all_below agents text ≡ kept_below line k left
  below_is k is =
      ap (λ (r : Result ReadBase LogTextFault). r >>= and_then text) (at.read agents ∙ ap (base_before line (lines_in left).lines) is)
      ∙ ap (λ t. increments_in (length (lines_in left).lines) line k (lines_in left).lines >>= λ there. at_log_line there.line (holds_or (is_empty t) Torn) >>= λ u. Ok there.kept) (sym at.rest)

  pub base_bad : base_of agents lines front ≡ None → all_below agents text ≡ Err (record { code = BadKept; line = 2 })
  base_bad none = ap (λ (r : Result ReadBase LogTextFault). r >>= and_then text) (at.read agents ∙ ap (base_before line (lines_in left).lines) none)

pub below_fault : (agents : ℕ) (text : List ℕ) (f : LogTextFault) → base_in agents (lines_in text).lines ≡ Err f → all_below agents text ≡ Err f
below_fault agents text f e = ap (λ (r : Result ReadBase LogTextFault). r >>= and_then text) e

-- ---- the whole

abbrev with_head : LogHead → Result KeptAmong LogTextFault → Result ReadLog LogTextFault
with_head h r = r >>= λ k. Ok (record { head = h; kept = k })

-- what is kept is read, and then the head is put to it
by_steps : (h : LogHead) (r : Result ReadBase LogTextFault) (next : ReadBase → Result KeptThere LogTextFault) (test : KeptThere → Result (Unit {0}) LogTextFault)
    → (r >>= λ first. next first >>= λ there. test there >>= λ u. Ok (record { head = h; kept = there.kept })) ≡ with_head h (r >>= λ first. next first >>= λ there. test there >>= λ u. Ok there.kept)
by_steps h (Err f) next test = refl
by_steps h (Ok first) next test = by_more (next first)
  where
    by_test : (there : KeptThere) (t : Result (Unit {0}) LogTextFault) → (t >>= λ u. Ok (record { head = h; kept = there.kept })) ≡ with_head h (t >>= λ u. Ok there.kept)
    by_test there (Err f) = refl
    by_test there (Ok u) = refl

    by_more : (m : Result KeptThere LogTextFault) → (m >>= λ there. test there >>= λ u. Ok (record { head = h; kept = there.kept })) ≡ with_head h (m >>= λ there. test there >>= λ u. Ok there.kept)
    by_more (Err f) = refl
    by_more (Ok there) = by_test there (test there)

log_by_lines : (text : List ℕ) → length text ≤ most_log_bytes → log_in text ≡ log_of_lines (lines_in text).lines (lines_in text).rest
unfolding log_in
log_by_lines text short = ap (λ b. cond b (log_of_lines (lines_in text).lines (lines_in text).rest) (Err (record { code = TooLong; line = 1 }))) (le-leb _ _ short)

pub too_long : (text : List ℕ) → most_log_bytes < length text → log_in text ≡ Err (record { code = TooLong; line = 1 })
unfolding log_in
too_long text long = ap (λ b. cond b (log_of_lines (lines_in text).lines (lines_in text).rest) (Err (record { code = TooLong; line = 1 }))) (above (length text) most_log_bytes long)
  where
    above : (n most : ℕ) → most < n → nat_le n most ≡ false
    above n most low = search (arith, low)

pub without_line : (text : List ℕ) → length text ≤ most_log_bytes → (lines_in text).lines ≡ [] → log_in text ≡ Err (record { code = BadHead; line = 1 })
without_line text short e = log_by_lines text short ∙ ap (λ ls. log_of_lines ls (lines_in text).rest) e

module _ (text l below : List ℕ) (short : length text ≤ most_log_bytes) (cut : lines_in text ≡ with_line l (lines_in below)) where
  by_line : log_in text ≡ (at_log_line 1 (head_in (fields_in l)) >>= λ h. log_below h (lines_in below).lines (lines_in below).rest)
  by_line = log_by_lines text short ∙ ap (λ (x : Lines). log_of_lines x.lines x.rest) cut

  pub bad_head : head_in (fields_in l) ≡ Err BadHead → log_in text ≡ Err (record { code = BadHead; line = 1 })
  bad_head e = by_line ∙ ap (λ (r : Result LogHead LogCode). at_log_line 1 r >>= λ h. log_below h (lines_in below).lines (lines_in below).rest) e

  module _ (h : LogHead) (good : head_in (fields_in l) ≡ Ok h) where
    by_head : log_in text ≡ with_head h (all_below h.agents below)
    by_head =
        by_line
        ∙ ap (λ (r : Result LogHead LogCode). at_log_line 1 r >>= λ h. log_below h (lines_in below).lines (lines_in below).rest) good
        ∙ by_steps h (base_in h.agents (lines_in below).lines) (λ first. increments_in (length first.left) first.line first.kept first.left) (λ there. at_log_line there.line (holds_or (is_empty (lines_in below).rest) Torn))

    pub log_read : (k : KeptAmong) → all_below h.agents below ≡ Ok k → log_in text ≡ Ok (record { head = h; kept = k })
    log_read k e = by_head ∙ ap (with_head h) e

    pub log_fault : (f : LogTextFault) → all_below h.agents below ≡ Err f → log_in text ≡ Err f
    log_fault f e = by_head ∙ ap (with_head h) e

    pub begins : BeginsWithHead text
    begins = record { short = short; head = h; read = ap (λ (x : Lines). first_head x.lines) cut ∙ good }

-- ---- faults

pub fault_of : (text : List ℕ) (fault : LogFault) → IfTold fault (λ f. log_in text ≡ Err f) → IsFaultOf text fault
fault_of text (Refused code line) e = e
fault_of text OutOfMemory e = tt

-- each line has its line feed
pub lines_fewer : (text : List ℕ) → length (lines_in text).lines ≤ length text
lines_fewer text = let same = feeds_end_lines text in omega (arith, same, few text)
