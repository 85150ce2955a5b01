-- What a preamble that was read tells, and where it is refused.
use Rattle.std.proofs.Common.{◌≡◌, ℕ, ◌≤◌, true, List, [], ◌∷◌, length, Result, Ok, Err, refl, sym, ap, ◌∙◌, subst, append-nil}
use Rattle.std.specs.List.{list_all}
use Rattle.std.proofs.lemmas.Bool.{and_from, and_parts}
use Rattle.metering_model.specs.Batch.{lacks}
use Rattle.metering_model.specs.FirstFailure.{◌>>=◌}
use Rattle.metering_model.specs.BatchReading.{Lines, fields_in, is_same, lines_in}
use Rattle.metering_model.specs.Sheet.{Sheet, Issuer}
use Rattle.metering_model.specs.Transcript.{line}
use Rattle.metering_model.proofs.Splitting.{lines_of_text}
use Rattle.metering_model.proofs.StepLaws.{ok_same, ok_step_from, step_ok, test_step}
use Rattle.input_sections.specs.declared.faults.ScheduleFault.{ScheduleFault}
use Rattle.input_sections.specs.declared.faults.ScheduleFault.TheVariants.{Refused}
use Rattle.input_sections.specs.declared.faults.ScheduleCode.TheVariants as code
use Rattle.input_sections.specs.Sections.{Unread, first_line, issuer_section, left, sheet_section, told, whole_of}
use Rattle.byte_text.proofs.PastLines.{lines_lack}
use Rattle.log_text.specs.LogText.{IsLogHead, LogTextFault, ReadLog, at_log_line, head_in, log_below, log_in, log_of_lines, nothing_kept}
use Rattle.log_text.proofs.KeptFirst.{log_has_text}
use Rattle.log_text.proofs.LogLaws.{log_read, short_read}
use Rattle.process_player.specs.declared.heads.ProcessKind.{ProcessKind}
use Rattle.process_player.specs.Starts.{Preamble, head_of, is_kind_of, kind_word, own_of, preamble_in}
use Rattle.process_player.specs.Inner.SheetAndIssuer.{sheet_and_issuer_in}
use Rattle.process_player.proofs.Fronts.{first_by}

-- ---- where the issuer is refused

err_step_from : {A B E : Type 0} (r : Result A E) (f : A → Result B E) (e : E) → r ≡ Err e → (r >>= f) ≡ Err e
err_step_from r f e h = ap (λ s. s >>= f) h

pub issuer_refused : (u : Unread) (s : Sheet × Unread) (fault : ScheduleFault) → sheet_section u ≡ Ok s → issuer_section s.1 ≡ Err fault → sheet_and_issuer_in u ≡ Err fault
issuer_refused u s fault sheet issuer = ok_step_from (sheet_section u) _ s _ sheet (err_step_from (issuer_section s.1) _ fault issuer)

pub both_read : (u : Unread) (s : Sheet × Unread) (i : Issuer × Unread) → sheet_section u ≡ Ok s → issuer_section s.1 ≡ Ok i → sheet_and_issuer_in u ≡ Ok (s.0, i.0, i.1)
both_read u s i sheet issuer = ok_step_from (sheet_section u) _ s _ sheet (ok_step_from (issuer_section s.1) _ i _ issuer refl)

-- ---- a preamble is what stands first, the sheet and the issuer

pub preamble_read : (k : ProcessKind) (text : List ℕ) (u : Unread) (h : ReadLog × Unread) (sheet : Sheet) (issuer : Issuer) (rest : Unread)
    → whole_of text ≡ Ok u → head_of k u ≡ Ok h → sheet_and_issuer_in h.1 ≡ Ok (sheet, issuer, rest)
    → preamble_in k text ≡ Ok (record { own = h.0; sheet = sheet; issuer = issuer; rest = rest })
unfolding preamble_in
preamble_read k text u h sheet issuer rest whole head prices =
    let s = step_ok (sheet_section h.1) _ _ prices in
    let i = step_ok (issuer_section s.0.1) _ _ s.2 in
    ok_step_from (whole_of text) _ u _ whole
    (ok_step_from (head_of k u) _ h _ head
    (ok_step_from (sheet_section h.1) _ s.0 _ s.1
    (ok_step_from (issuer_section s.0.1) _ i.0 _ i.1
    (ap (λ (q : Sheet × Issuer × Unread). Ok (record { own = h.0; sheet = q.0; issuer = q.1; rest = q.2 })) (ok_same _ _ i.2)))))

then_refused : {A B C E : Type 0} (r : Result A E) (f : A → Result B E) (g : A → Result C E) (e : E) → ((x : A) → f x ≡ Err e → g x ≡ Err e) → (r >>= f) ≡ Err e → (r >>= g) ≡ Err e
then_refused (Ok x) f g e so h = so x h
then_refused (Err y) f g e so h = let same : y ≡ e = cc in ap Err same

pub both_refused : (k : ProcessKind) (text : List ℕ) (u : Unread) (h : ReadLog × Unread) (fault : ScheduleFault)
    → whole_of text ≡ Ok u → head_of k u ≡ Ok h → sheet_and_issuer_in h.1 ≡ Err fault → preamble_in k text ≡ Err fault
unfolding preamble_in
both_refused k text u h fault whole head prices =
    ok_step_from (whole_of text) _ u _ whole
    (ok_step_from (head_of k u) _ h _ head
    (then_refused (sheet_section h.1) _ _ fault (λ s. then_refused (issuer_section s.1) _ _ fault (λ i none. absurd (cc))) prices))

-- ---- its own line heads a log

told_ok : {A E : Type 0} (fault : ScheduleFault) (r : Result A E) (x : A) → told fault r ≡ Ok x → r ≡ Ok x
told_ok fault (Ok y) x h = ap Ok (ok_same {E = ScheduleFault} y x h)
told_ok fault (Err e) x h = absurd (cc)

-- it is read of one line
pub record IsOwn (r : ReadLog) : Type 0 where
  pub own : List ℕ
  pub whole : lacks 10 own ≡ true
  pub read : log_in (line own) ≡ Ok r

own_log : (k : ProcessKind) (u : Unread) (r : ReadLog × Unread) → own_of k u ≡ Ok r → IsOwn r.0
own_log k u r h =
    let l = step_ok (first_line code.Nodes u) _ r h in
    let own = step_ok (told (Refused code.Nodes 2) (log_in (line l.0.0))) _ r l.2 in
    let kind = test_step (is_kind_of k own.0.head.who) _ _ r own.2 in
    let first = first_by code.Nodes u l.0.0 l.0.1 l.1 in
    record {
      own = l.0.0;
      whole = (and_parts (lacks 10 l.0.0) (list_all (lacks 10) first.0) (ap (list_all (lacks 10)) (sym first.1) ∙ lines_lack (left u))).0;
      read = told_ok (Refused code.Nodes 2) (log_in (line l.0.0)) own.0 own.1 ∙ ap Ok (ap (λ (q : ReadLog × Unread). q.0) (ok_same _ _ kind.1));
    }

head_log : (k : ProcessKind) (u : Unread) (r : ReadLog × Unread) → head_of k u ≡ Ok r → IsOwn r.0
head_log k u r h =
    let l = step_ok (first_line code.Head u) _ r h in
    let test = test_step (is_same l.0.0 (kind_word k)) _ _ r l.2 in
    own_log k l.0.1 r test.1

pub preamble_log : (k : ProcessKind) (text : List ℕ) (p : Preamble) → preamble_in k text ≡ Ok p → IsOwn p.own
unfolding preamble_in
preamble_log k text p h =
    let whole = step_ok (whole_of text) _ p h in
    let head = step_ok (head_of k whole.0) _ p whole.2 in
    let sheet = step_ok (sheet_section head.0.1) _ p head.2 in
    let issuer = step_ok (issuer_section sheet.0.1) _ p sheet.2 in
    subst IsOwn (ap (λ (q : Preamble). q.own) (ok_same _ _ issuer.2)) (head_log k whole.0 head.0 head.1)

abbrev pub IsLogRead : ReadLog → Type 0
IsLogRead r = (text : List ℕ) × (log_in text ≡ Ok r)

pub own_read : {r : ReadLog} → IsOwn r → IsLogRead r
own_read it = (line it.own, it.read)

-- a log of one line keeps nothing
pub own_keeps : (r : ReadLog) → IsOwn r → r.kept ≡ nothing_kept r.head.agents
own_keeps r it =
    let is = log_read (line it.own) r it.read in
    let short : length (line it.own) ≤ 4_294_967_296 = subst (λ t. length t ≤ 4_294_967_296) (sym is.2) is.3.short in
    let lines : lines_in (line it.own) ≡ record { lines = it.own ∷ []; rest = [] } =
    ap lines_in (sym (append-nil (line it.own))) ∙ lines_of_text (it.own ∷ []) (and_from _ _ it.whole refl) in
    let read : log_of_lines (it.own ∷ []) [] ≡ Ok r =
    ap (λ (x : Lines). log_of_lines x.lines x.rest) (sym lines) ∙ sym (short_read (line it.own) short) ∙ it.read in
    let head = step_ok (at_log_line 1 (head_in (fields_in it.own))) (λ h. log_below h [] []) r read in
    let same : ◌≡◌ {A = ReadLog} (record { head = head.0; kept = nothing_kept head.0.agents }) r = ok_same {E = LogTextFault} _ r head.2 in
    subst (λ (x : ReadLog). x.kept ≡ nothing_kept x.head.agents) same refl

-- what is read of a log is within its limits, and of as many agents as its head says
pub log_limits : (r : ReadLog) → IsLogRead r → IsLogHead r.head × (r.kept.agents ≡ r.head.agents)
log_limits r it =
    let is = log_read it.0 r it.1 in
    (is.3.head, ap (λ k. k.agents) is.4 ∙ (log_has_text r.head is.0 is.1 is.3).1)
