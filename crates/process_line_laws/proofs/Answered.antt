-- What a process that stands for one of a history answers to a command: an act of it is next, and the host reads just its answer.
use Rattle.std.proofs.Common.{◌≡◌, ◌⊎◌, ℕ, List, [], ◌∷◌, ◌++◌, Option, Some, sym, ap, subst, ◌∙◌, append-nil}
use Rattle.metering_model.specs.KeptText.{kept_text}
use Rattle.process_laws.specs.LocalSteps.{Answer, Group, KeptIs, saying}
use Rattle.process_laws.specs.Histories.{Act, acted, after, begun}
use Rattle.log_text.specs.LogText.{Increment, IsLogHead, Who}
use Rattle.process_text.specs.declared.processes.Process.{Process}
use Rattle.process_text.specs.Answers.{refused_text, words_text}
use Rattle.process_player.specs.Runs.{Asked}
use Rattle.process_line_laws.specs.Told.{Told, just, meant, text_added, texts_sent, told_in}
use Rattle.process_line_laws.specs.Hosts.{Asks, HostAct, Machines, Shortens, done, head_of, short_log, with_machine}
use Rattle.process_line_laws.specs.Comes.{AsksNothing, IsActOf, SaysJust, kept_by, process_there}
use Rattle.process_line_laws.proofs.Logs.{KeepsBy, keeps_shorter}
use Rattle.process_line_laws.proofs.ReadAnswers.{refused_read, so_told}
use Rattle.process_line_laws.proofs.Stands.{Stands, stands_still}

-- ---- what a host's act comes to

-- it is one act more
pub record OneAct (g : Group) (m' : Machines) (acts : List Act) (h : HostAct) (said : List ℕ) : Type 0 where
  pub act : Act
  pub is : IsActOf h act
  pub says : SaysJust g.name said (acted g (after g (begun g) acts) act).answer
  pub stands : Stands g m' (acts ++ act ∷ [])

-- or none
pub record NoAct (g : Group) (m' : Machines) (acts : List Act) (h : HostAct) : Type 0 where
  pub nothing : AsksNothing h
  pub stands : Stands g m' acts

abbrev pub ComesOf : Group → Machines → List Act → HostAct → (said : List ℕ) → Type 0
ComesOf g m acts h said = OneAct g (done g m h) acts h said ⊎ NoAct g (done g m h) acts h

-- A process has answered so by that act: with its answer it is another, whatever its log has become, if that tells what it keeps.
pub record HasAnswered (g : Group) (m : Machines) (acts : List Act) (w : Who) (next : Process) (said : List ℕ) (act : Act) : Type 0 where
  pub answer : Answer
  pub added : Option Increment
  pub read : told_in said ≡ meant g.name added answer
  pub is : (acted g (after g (begun g) acts) act).answer ≡ answer
  pub keeps : KeepsBy (head_of g w) ((m.machine w).log ++ text_added added) (kept_by next)
  pub stands : (log : List ℕ) → KeepsBy (head_of g w) log (kept_by next)
      → Stands g (record {
        machine = with_machine w (record { runs = Some next; log = log }) m.machine;
        sent = m.sent ++ texts_sent g.name answer.sends;
      }) (acts ++ act ∷ [])

module _ (g : Group) (m : Machines) (acts : List Act) (w : Who) (next : Process) (said : List ℕ) (act : Act)
    (has : HasAnswered g m acts w next said act) where
  says_just : SaysJust g.name said (acted g (after g (begun g) acts) act).answer
  says_just = record {
    words = ap (λ t. t.last) has.read ∙ ap (λ (x : Answer). words_text x.words) (sym has.is);
    sends = ap (λ t. t.sent) has.read ∙ ap (λ (x : Answer). texts_sent g.name x.sends) (sym has.is);
  }

  pub asked_comes : (asked : Asked) → IsActOf (Asks w asked next said) act
      → OneAct g (done g m (Asks w asked next said)) acts (Asks w asked next said) said
  asked_comes asked is = record {
    act = act;
    is = is;
    says = says_just;
    stands = subst (λ (t : Told). Stands g
        (record {
          machine = with_machine w (record { runs = Some next; log = (m.machine w).log ++ t.kept }) m.machine;
          sent = m.sent ++ t.sent;
        }) (acts ++ act ∷ []))
        (sym has.read) (has.stands ((m.machine w).log ++ text_added has.added) has.keeps);
  }

  pub shortened_comes : IsLogHead (head_of g w) → IsActOf (Shortens w next said) act
      → has.answer ≡ saying (KeptIs (kept_text (kept_by next)))
      → OneAct g (done g m (Shortens w next said)) acts (Shortens w next said) said
  shortened_comes head is told = record {
    act = act;
    is = is;
    says = says_just;
    stands =
        let last : (told_in said).last ≡ words_text (KeptIs (kept_text (kept_by next))) = ap (λ t. t.last) has.read
        ∙ ap (λ (x : Answer). words_text x.words) told in
        let none : m.sent ++ texts_sent g.name has.answer.sends ≡ m.sent = ap (λ (x : Answer). m.sent ++ texts_sent g.name x.sends) told
        ∙ append-nil m.sent in
        subst (λ ts. Stands g
        (record {
          machine = with_machine w (record { runs = Some next; log = short_log (head_of g w) (told_in said).last }) m.machine;
          sent = ts;
        }) (acts ++ act ∷ []))
        none
        (has.stands (short_log (head_of g w) (told_in said).last)
        (subst (λ t. KeepsBy (head_of g w) (short_log (head_of g w) t) (kept_by next)) (sym last) (keeps_shorter has.keeps head)));
  }

-- what is no command changes nothing
module _ (g : Group) (m : Machines) (acts : List Act) (stands : Stands g m acts) (w : Who) (head : IsLogHead (head_of g w)) (p : Process)
    (there : process_there g (after g (begun g) acts) w ≡ Some p) where
  pub nothing_comes : (asked : Asked) (next : Process) (said why : List ℕ) → next ≡ p → said ≡ refused_text why
      → AsksNothing (Asks w asked next said)
      → NoAct g (done g m (Asks w asked next said)) acts (Asks w asked next said)
  nothing_comes asked next said why same refused nothing = record {
    nothing = nothing;
    stands =
        let read : told_in said ≡ just (refused_text why) = ap told_in refused
        ∙ so_told (refused_text why) (just (refused_text why)) (refused_read why) in
        let log = (m.machine w).log in
        let keeps : KeepsBy (head_of g w) (log ++ []) (kept_by p) =
        subst (λ t. KeepsBy (head_of g w) t (kept_by p)) (sym (append-nil log)) ((stands.stand.each w).keeps p there) in
        subst (λ (t : Told). Stands g
        (record {
          machine = with_machine w (record { runs = Some next; log = log ++ t.kept }) m.machine;
          sent = m.sent ++ t.sent;
        }) acts) (sym read)
        (subst (λ q. Stands g
        (record { machine = with_machine w (record { runs = Some q; log = log ++ [] }) m.machine; sent = m.sent ++ [] }) acts)
        (sym same)
        (stands_still g m acts stands w p (log ++ []) head keeps there (m.sent ++ []) (append-nil m.sent)));
  }
