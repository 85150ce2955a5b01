-- What was stored last is taken, and a process is begun with it.
use Rattle.std.proofs.Common.{◌≡◌, ℕ, ◌+◌, ◌-◌, ◌<◌, ◌≤◌, true, false, cond, List, [], ◌∷◌, ◌++◌, length, take, drop, IsTrue, Option, Some, None, Ok, Err, codes, refl, sym, ap, ap₂, ◌∙◌, subst, arith, append_assoc, append-nil}
use Rattle.std.specs.List.{flat_map}
use Rattle.std.specs.Io.KnownBytes.{IsAtEnd}
use Rattle.std.specs.Prelude.{nat_le}
use Rattle.std.proofs.lemmas.Bool.{and_parts, leb-true, lt-leb, ltb-true}
use Rattle.std.proofs.lemmas.List.{drop-take, length-append, length-drop, length-take-le, take-append-drop, take-append-le, take-take}
use Rattle.metering_model.specs.Batch.{lacks}
use Rattle.metering_model.specs.BatchReading.{Lines, fields_in, is_same, lines_in}
use Rattle.metering_model.specs.KeptText.{KeptAmong}
use Rattle.metering_model.specs.Schedule.{TextLines, lines_text}
use Rattle.metering_model.specs.Sheet.{Sheet, Issuer}
use Rattle.metering_model.specs.Transcript.{line}
use Rattle.metering_model.proofs.FieldLaws.{same_read}
use Rattle.metering_model.proofs.Splitting.{lines_give_back, lines_of_text}
use Rattle.metering_model.proofs.StepLaws.{ok_same}
use Rattle.byte_text.proofs.PastLines.{lines_lack}
use Rattle.group_process.specs.Journals.{keeps_journal_of}
use Rattle.process_laws.specs.LocalSteps as laws
use Rattle.input_sections.specs.declared.faults.ScheduleFault.TheVariants.{Refused}
use Rattle.input_sections.specs.declared.faults.ScheduleCode.TheVariants as code
use Rattle.line_source.specs.Lines.{AreBetween, AreFewer}
use Rattle.line_source.specs.Reading.{Takes}
use Rattle.line_source.proofs.Taking.{reads_on}
use Rattle.log_text.specs.declared.faults.LogCode.{LogCode}
use Rattle.log_text.specs.LogText.{AgentOf, IsLogHead, LogHead, NodeOf, ReadLog, Who, base_text, has_head, head_in, head_text, increment_text, is_among, log_in, nothing_kept, section_in}
use Rattle.log_text.proofs.HeadLaws.{head_lacks_feed, head_line, head_written}
use Rattle.log_text.proofs.LogLaws.{log_lacks_feed, log_lines, log_lines_text, log_read}
use Rattle.process_text.specs.declared.processes.Process.{Process}
use Rattle.process_player.specs.declared.faults.ProcessFault.{ProcessFault}
use Rattle.process_player.specs.declared.faults.ProcessFault.TheVariants as fault
use Rattle.process_player.specs.declared.heads.ProcessKind.{ProcessKind}
use Rattle.process_player.specs.Refusals.{IsNoJournal, RefusesJournal, Rejects, SaysLog, log_there, stored_lines}
use Rattle.process_player.specs.Starts.{GoesOn, HasLog, HasNone, IsStored}
use Rattle.process_player.specs.Inner.Groups.{IsAmong, group_said}
use Rattle.process_player.specs.Inner.Reading.{AreStoredShort, HasBegun, HasRead, HasTaken, Passes}
use Rattle.process_player.specs.Inner.Refusing.{OfAll, RejectsLog, RejectsStored}
use Rattle.process_player.proofs.Between.{between_counted, first_whole}
use Rattle.process_player.proofs.CommandTexts.{first_between, lines_with}
use Rattle.process_player.proofs.Refusing.{behind}
use Rattle.process_player.proofs.Passing.{passes_front, passes_more, passes_of, passes_on}
use Rattle.process_player.proofs.PreambleLaws.{IsOwn, log_limits, own_keeps, own_read, preamble_log}

-- all that is ahead and still to come, where more was read
all_ahead : {a a' b xs ys : List ℕ} {r s : ℕ} → a' ≡ a → Takes a' b r s (Some xs) (Some ys) [] → a ++ xs ≡ b ++ ys
all_ahead {a} {a'} {b} {xs} {ys} e t =
    ap (λ u. u ++ xs) (sym e) ∙ ap (λ u. a' ++ u) t.consumed ∙ sym (append_assoc a' t.came ys) ∙ ap (λ u. u ++ ys) t.joined

-- no line is ahead
none_first : (ls : TextLines) → length ls < 1 → ls ≡ []
none_first [] few = refl
none_first (l ∷ ls) few = absurd (omega (arith, few))

pub none_ahead : (next : ℕ) (text : List ℕ) → length (lines_in text).lines < 1 → AreStoredShort next text
none_ahead next text few = ap (stored_lines next) (none_first (lines_in text).lines few)

-- and none comes
pub none_comes : (own : ReadLog) (next : ℕ) {a a' b : List ℕ} {r s : ℕ} {l m : Option (List ℕ)} → a' ≡ a → Takes a' b r s l m [] → AreFewer 0 1 b m
    → OfAll (RejectsStored own next (fault.Section (Refused code.Lines next))) a l
none_comes own next {l = None} same it few = tt
none_comes own next {l = Some xs} {m = None} same it few = absurd it.consumed
none_comes own next {b = b} {l = Some xs} {m = Some ys} same it few =
    ap (λ u. stored_lines next (lines_in u).lines) (all_ahead same it ∙ ap (λ u. b ++ u) few.1 ∙ append-nil b) ∙ none_ahead next b few.0

-- ---- the head of a log

first_line : TextLines → List ℕ
first_line [] = []
first_line (l ∷ ls) = l

-- a log that begins with a head line is of that head
pub same_head : (h : LogHead) (text : List ℕ) (r : ReadLog) → IsLogHead h → log_in text ≡ Ok r → has_head h text ≡ true → r.head ≡ h
unfolding first_line
same_head h text r is read own =
    let it = log_read text r read in
    let of_log = it.3.head in
    let front : take (length (head_text h)) text ≡ head_text h = same_read (take (length (head_text h)) text) (head_text h) own in
    let rest = drop (length (head_text h)) text in
    let here : text ≡ line (head_line h) ++ rest = sym (take-append-drop (length (head_text h)) text) ∙ ap (λ t. t ++ rest) front in
    let base = base_text it.0 in
    let increments = flat_map increment_text it.1 in
    let there : text ≡ line (head_line r.head) ++ base ++ increments = it.2 in
    let more = base ++ increments in
    let lines : head_line r.head ≡ head_line h =
    sym (ap first_line (lines_with (head_line r.head) more (head_lacks_feed r.head of_log)))
    ∙ ap (λ t. first_line (lines_in t).lines) (sym (append_assoc (line (head_line r.head)) base increments) ∙ sym there ∙ here)
    ∙ ap first_line (lines_with (head_line h) rest (head_lacks_feed h is)) in
    ok_same {E = LogCode} r.head h (sym (head_written r.head of_log) ∙ ap (λ l. head_in (fields_in l)) lines ∙ head_written h is)

-- ---- it is taken

module _ (own : ReadLog) {a a' b : List ℕ} {r s : ℕ} {l m : Option (List ℕ)} {end : ℕ} (same : a' ≡ a) (reads : Takes a' b r s l m []) (one : AreBetween 0 end b 1) where
  pub new_taken : {c : List ℕ} → is_same (take (end - 1) b) (codes "new") ≡ true → c ≡ drop end b → length (drop end b) < 65_536 → HasTaken own own.kept a c l m
  new_taken {c} is behind at_hand = record {
    text = codes "new" ++ 10 ∷ [];
    is_stored = HasNone;
    passes = subst (λ t. Passes t c l m (line (codes "new"))) same
        (passes_front (passes_of reads) c (line (codes "new"))
        (sym (take-append-drop end b) ∙ ap₂ (λ t u. t ++ u) (first_whole one ∙ ap line (same_read (take (end - 1) b) (codes "new") is)) (sym behind)));
    at_hand = subst (λ t. length t < 65_536) (sym behind) at_hand;
  }

  -- the lines that are ahead and still to come: that one, and those below it
  lines_ahead : (ys : List ℕ) → (lines_in (b ++ ys)).lines ≡ take (end - 1) b ∷ (lines_in (drop end b ++ ys)).lines
  lines_ahead ys =
      let first = first_between one in
      ap (λ t. (lines_in (t ++ ys)).lines) (sym (take-append-drop end b) ∙ ap (λ t. t ++ drop end b) first.is)
      ∙ ap (λ t. (lines_in t).lines) (append_assoc (line first.first) (drop end b) ys)
      ∙ lines_with first.first (drop end b ++ ys) first.whole ∙ ap (λ t. t ∷ (lines_in (drop end b ++ ys)).lines) (sym first.taken)

  -- it says nothing of the kind
  pub none_said : (next : ℕ) → is_same (take (end - 1) b) (codes "new") ≡ false → section_in (codes "log ") 4_294_967_295 (take (end - 1) b) ≡ None
      → OfAll (RejectsStored own next (fault.Section (Refused code.Event next))) a l
  none_said next not_new none = none_in l m same reads
    where
      none_in : (l' m' : Option (List ℕ)) → a' ≡ a → Takes a' b r s l' m' [] → OfAll (RejectsStored own next (fault.Section (Refused code.Event next))) a l'
      none_in None m' e t = tt
      none_in (Some xs) None e t = absurd t.consumed
      none_in (Some xs) (Some ys) e t =
          let below = (lines_in (drop end b ++ ys)).lines in
          ap (λ u. stored_lines next (lines_in u).lines) (all_ahead e t) ∙ ap (stored_lines next) (lines_ahead ys)
          ∙ ap (λ x. cond x (Ok 0) (log_there next below (section_in (codes "log ") 4_294_967_295 (take (end - 1) b)))) not_new
          ∙ ap (log_there next below) none

  module _ {c : List ℕ} {s' : ℕ} {n : Option (List ℕ)} (more : Takes b c s s' m n []) where
    both_reads : Takes a' c r s' l n []
    both_reads = reads_on reads more

    -- the line stays where more is read
    front : take end c ≡ line (take (end - 1) b)
    front = ap (take end) (sym more.joined) ∙ take-append-le end b more.came one.within ∙ first_whole one

    -- fewer lines are ahead than it says
    pub few_ahead : (next count : ℕ) → is_same (take (end - 1) b) (codes "new") ≡ false → section_in (codes "log ") 4_294_967_295 (take (end - 1) b) ≡ Some count
        → length (lines_in (drop end c)).lines < count → AreStoredShort next c
    few_ahead next count not_new said few =
        let below = (lines_in (drop end c)).lines in
        let all : (lines_in c).lines ≡ take (end - 1) b ∷ below =
        ap (λ u. (lines_in u).lines) (sym (take-append-drop end c) ∙ ap (λ u. u ++ drop end c) front)
        ∙ lines_with (take (end - 1) b) (drop end c) (ap (lacks 10) (first_between one).taken ∙ (first_between one).whole) in
        ap (stored_lines next) all
        ∙ ap (λ x. cond x (Ok 0) (log_there next below (section_in (codes "log ") 4_294_967_295 (take (end - 1) b)))) not_new
        ∙ ap (log_there next below) said ∙ ap (λ x. cond x (Ok count) (Err (Refused code.Lines next))) (lt-leb count (length below) few)

    -- and fewer come
    pub too_few : (next count : ℕ) → is_same (take (end - 1) b) (codes "new") ≡ false → section_in (codes "log ") 4_294_967_295 (take (end - 1) b) ≡ Some count
        → AreFewer end count c n → OfAll (RejectsStored own next (fault.Section (Refused code.Lines next))) a l
    too_few next count not_new said few = few_in l n same both_reads few.1
      where
        few_in : (l' n' : Option (List ℕ)) → a' ≡ a → Takes a' c r s' l' n' [] → IsAtEnd n' → OfAll (RejectsStored own next (fault.Section (Refused code.Lines next))) a l'
        few_in None n' e t at_end = tt
        few_in (Some xs) None e t at_end = absurd t.consumed
        few_in (Some xs) (Some ys) e t at_end =
            ap (λ u. stored_lines next (lines_in u).lines) (all_ahead e t ∙ ap (λ u. c ++ u) at_end ∙ append-nil c) ∙ few_ahead next count not_new said few.0

    module _ {all count : ℕ} (lines : AreBetween end all c count) where
      both : take all c ≡ line (take (end - 1) b) ++ drop end (take all c)
      both = sym (take-append-drop end (take all c)) ∙ ap (λ t. t ++ drop end (take all c)) (take-take end all c lines.ordered ∙ front)

      log_is : drop end (take all c) ≡ take (all - end) (drop end c)
      log_is = let ordered = lines.ordered in ap (λ k. drop end (take k c)) (omega (arith, ordered)) ∙ drop-take end (all - end) c

      pub log_taken : {d : List ℕ} {kept : KeptAmong} → section_in (codes "log ") 4_294_967_295 (take (end - 1) b) ≡ Some count
          → log_in (take (all - end) (drop end c)) ≡ Ok (record { head = own.head; kept = kept }) → d ≡ drop all c → length (drop all c) < 65_536 → HasTaken own kept a d l n
      log_taken {d} {kept} said read behind at_hand = record {
        text = line (take (end - 1) b) ++ drop end (take all c);
        is_stored = HasLog (take (end - 1) b) (drop end (take all c)) kept count said (between_counted lines) (ap log_in log_is ∙ read);
        passes = subst (λ t. Passes t d l n (line (take (end - 1) b) ++ drop end (take all c))) same
            (passes_front (passes_more (passes_of reads) (passes_of more)) d (line (take (end - 1) b) ++ drop end (take all c))
            (sym (take-append-drop all c) ∙ ap₂ (λ t u. t ++ u) both (sym behind)));
        at_hand = subst (λ t. length t < 65_536) (sym behind) at_hand;
      }

      -- the log stands there, whatever it is
      abbrev says_log : {xs ys : List ℕ} → a' ≡ a → Takes a' c r s' (Some xs) (Some ys) [] → section_in (codes "log ") 4_294_967_295 (take (end - 1) b) ≡ Some count → SaysLog (a ++ xs)
      says_log {xs} {ys} e t said = record {
        said = take (end - 1) b;
        lines = lines.lines;
        whole = lines.whole;
        is_said = said ∙ ap Some (sym lines.counted);
        more = drop all c ++ ys;
        joined =
            all_ahead e t ∙ ap (λ u. u ++ ys) (sym (take-append-drop all c) ∙ ap (λ u. u ++ drop all c) (both ∙ ap (λ u. line (take (end - 1) b) ++ u) lines.are_lines))
            ∙ append_assoc (line (take (end - 1) b) ++ lines_text lines.lines) (drop all c) ys;
      }

      log_text_is : (seen : List ℕ) → seen ≡ c → take (all - end) (drop end seen) ≡ lines_text lines.lines
      log_text_is seen is = ap (λ t. take (all - end) (drop end t)) is ∙ sym log_is ∙ lines.are_lines

      -- it is no longer than what was read since the mark
      log_short : r ≡ length a → s' ≤ 4_294_967_296 → length (lines_text lines.lines) ≤ 4_294_967_296
      log_short marked within =
          let counted = both_reads.counted in
          let joined = ap length both_reads.joined in
          let size = ap length lines.are_lines in
          let there = lines.within in
          omega (arith, marked, within, counted, joined, size, ap length same, length-append a' both_reads.came, length-drop end (take all c), length-take-le all c there, there)

      pub log_refused : (next : ℕ) (head : LogHead) (seen : List ℕ) (e : ProcessFault) → seen ≡ c → head ≡ own.head
          → r ≡ length a → s' ≤ 4_294_967_296 → section_in (codes "log ") 4_294_967_295 (take (end - 1) b) ≡ Some count
          → RejectsLog head (take (all - end) (drop end seen)) e → OfAll (RejectsStored own next e) a l
      log_refused next head seen e is_seen is_head marked within said it =
          refused_in e l n same both_reads
          (subst (λ t. RejectsLog own.head t e) (log_text_is seen is_seen) (subst (λ h. RejectsLog h (take (all - end) (drop end seen)) e) is_head it))
        where
          refused_in : (e : ProcessFault) (l' n' : Option (List ℕ)) → a' ≡ a → Takes a' c r s' l' n' [] → RejectsLog own.head (lines_text lines.lines) e → OfAll (RejectsStored own next e) a l'
          refused_in e None n' same t it = tt
          refused_in e (Some xs) None same t it = absurd t.consumed
          refused_in fault.Read (Some xs) (Some ys) same t it = tt
          refused_in (fault.Section why) (Some xs) (Some ys) same t it = absurd it
          refused_in (fault.Log at_fault number) (Some xs) (Some ys) same t it = record { says = says_log same t said; short = log_short marked within; own_head = it.0; refused = it.1 }
          refused_in fault.OtherLog (Some xs) (Some ys) same t it = record { says = says_log same t said; other = it }
          refused_in fault.NoJournal (Some xs) (Some ys) same t it = absurd it
          refused_in fault.TooLong (Some xs) (Some ys) same t it = absurd it
          refused_in fault.Write (Some xs) (Some ys) same t it = absurd it
          refused_in fault.OutOfMemory (Some xs) (Some ys) same t it = tt

-- ---- a process is begun with it, or not

stored_agents : {own : ReadLog} {text : List ℕ} {kept : KeptAmong} → own.kept.agents ≡ own.head.agents → IsStored own text kept → kept.agents ≡ own.head.agents
stored_agents is HasNone = is
stored_agents {own} is (HasLog said log kept n lines counted read) = (log_limits (record { head = own.head; kept = kept }) (log, read)).1

-- what a head line alone keeps is a journal without a batch
journal_at_first : (w : Who) (k : KeptAmong) (agents : ℕ) → k ≡ nothing_kept agents → IsNoJournal w k → ⊥
journal_at_first (NodeOf i) k agents is none = none
journal_at_first (AgentOf a) k agents is none =
    let journal : keeps_journal_of a k.kept ≡ true = ap (λ x. keeps_journal_of a x.kept) is in
    absurd (cc)

-- a log that is read is whole lines
pub log_lines_of : (text : List ℕ) (r : ReadLog) → log_in text ≡ Ok r → text ≡ lines_text (lines_in text).lines
log_lines_of text r read =
    let it = log_read text r read in
    let ls = log_lines r.head it.0 it.1 in
    let is : text ≡ lines_text ls = it.2 ∙ sym (log_lines_text r.head it.0 it.1) in
    let rest : (lines_in text).rest ≡ [] = ap (λ t. (lines_in t).rest) is ∙ ap (λ (x : Lines). x.rest) (lines_of_text ls (log_lacks_feed r.head it.0 it.1 it.3)) in
    sym (lines_give_back text) ∙ ap (λ t. lines_text (lines_in text).lines ++ t) rest ∙ append-nil (lines_text (lines_in text).lines)

refused_journal : {own : ReadLog} {text : List ℕ} {kept : KeptAmong} → IsOwn own → (rest : List ℕ) → IsStored own text kept → IsNoJournal own.head.who kept → RefusesJournal own (text ++ rest)
refused_journal {own} it rest HasNone none = absurd (journal_at_first own.head.who own.kept own.head.agents (own_keeps own it) none)
refused_journal {own} it rest (HasLog said log kept n lines counted read) none =
    let is = log_lines_of log (record { head = own.head; kept = kept }) read in
    record {
      says = record {
        said = said;
        lines = (lines_in log).lines;
        whole = lines_lack log;
        is_said = lines ∙ ap Some (sym counted);
        more = rest;
        joined = ap (λ t. line said ++ t ++ rest) is;
      };
      kept = kept;
      is_log = ap log_in (sym is) ∙ read;
      no_journal = none;
    }

among_of : (w : Who) (g : laws.Group) → IsTrue (is_among w (g.voters + g.observers) g.agents) → IsAmong g w
among_of (NodeOf i) g h = ltb-true _ _ h
among_of (AgentOf a) g h = let both = and_parts (nat_le 1 a) (nat_le a g.agents) h in (leb-true _ _ both.0, leb-true _ _ both.1)

pub among_group : (h : LogHead) (sheet : Sheet) (issuer : Issuer) (g : laws.Group) (w : Who) → IsLogHead h → g ≡ group_said h sheet issuer → w ≡ h.who → IsAmong g w
among_group h sheet issuer g w head is of = subst (λ x. IsAmong g x) (sym of) (subst (λ x. IsAmong x h.who) (sym is) (among_of h.who (group_said h sheet issuer) head.who))

module _ {k : ProcessKind} {own : ReadLog} {sheet : Sheet} {issuer : Issuer} {next : ℕ} {a b : List ℕ} {l m : Option (List ℕ)} (it : HasRead k own sheet issuer next a b l m) where
  own_line : IsOwn own
  own_line = preamble_log k it.text (record { own = own; sheet = sheet; issuer = issuer; rest = it.behind }) it.is_read

  pub own_head : IsLogHead own.head
  own_head = (log_limits own (own_read own_line)).0

  module _ {kept : KeptAmong} {c : List ℕ} {n : Option (List ℕ)} (taken : HasTaken own kept b c m n) where
    pub kept_agents : kept.agents ≡ own.head.agents
    kept_agents = stored_agents (log_limits own (own_read own_line)).1 taken.is_stored

    pub has_begun : (p : Process) → GoesOn (group_said own.head sheet issuer) own.head.who kept p → HasBegun k p a c l n
    has_begun p goes_on = record {
      text = it.text ++ taken.text;
      begins = record {
        preamble = record { own = own; sheet = sheet; issuer = issuer; rest = it.behind };
        first = it.text;
        stored = taken.text;
        joined = refl;
        is_read = it.is_read;
        whole = it.whole;
        kept = kept;
        is_stored = taken.is_stored;
        goes_on = goes_on;
      };
      passes = passes_on it.passes taken.passes;
      at_hand = taken.at_hand;
    }

    pub no_journal : IsNoJournal own.head.who kept → OfAll (λ input. Rejects k input fault.NoJournal) a l
    no_journal none =
        behind (λ own next stored. RefusesJournal own stored) it (refused_in m n taken)
      where
        refused_in : (m' n' : Option (List ℕ)) → HasTaken own kept b c m' n' → OfAll (λ stored. RefusesJournal own stored) b m'
        refused_in None n' t = tt
        refused_in (Some xs) None t = absurd t.passes.consumed
        refused_in (Some xs) (Some ys) t =
            subst (RefusesJournal own)
            (sym (ap (λ u. b ++ u) t.passes.consumed ∙ sym (append_assoc b t.passes.came ys) ∙ ap (λ u. u ++ ys) t.passes.joined
            ∙ append_assoc t.text c ys))
            (refused_journal own_line (c ++ ys) t.is_stored none)
