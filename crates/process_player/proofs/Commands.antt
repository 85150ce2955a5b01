-- A process is asked, and answers, one command after the other.
use Rattle.std.proofs.Common.{◌≡◌, ℕ, ◌-◌, ◌<◌, take, drop, List, [], ◌∷◌, ◌++◌, length, Option, ◌≤◌, Result, Ok, Err, OnOk, IfErr, refl, sym, ap, subst, ◌∙◌, arith, append_assoc, append-nil}
use Rattle.std.proofs.lemmas.List.{drop-take}
use Rattle.std.specs.List.{flat_map}
use Rattle.std.specs.Io.KnownBytes.{Appends, IsAtEnd}
use Rattle.std.proofs.KnownBytes.{Appends-trans}
use Rattle.process_text.specs.declared.processes.Process.{Process}
use Rattle.counted_io.specs.Writing.{AppendsPrefix}
use Rattle.process_text.specs.Answers.{Answers, begun_text}
use Rattle.process_player.specs.declared.heads.ProcessKind.{ProcessKind}
use Rattle.process_player.proofs.Passing.{passes_front, passes_more, passes_on}
use Rattle.process_player.specs.Runs.{Asked, Does, Runs, RunsToEnd, Serves, TornLater, bytes_of}
use Rattle.process_player.specs.Inner.Reading.{Continues, ContinuesWithin, EndsHere, HasBegun, IsCommandAt, IsTorn, Passes, ServesOne, StopsWithin}

-- ---- one command after the other

serves_behind : (p q r : Process) (said one : List ℕ) (a : Asked) (asked : List Asked)
    → Serves p asked q said → Does q a r one → Serves p (asked ++ a ∷ []) r (said ++ one)
serves_behind p q r said one a [] it does = record {
  next = r;
  one = one;
  more = [];
  does = subst (λ x. Does x a r one) it.0 does;
  then = (refl, refl);
  joined = ap (λ t. t ++ one) it.1 ∙ sym (append-nil one);
}
serves_behind p q r said one a (b ∷ asked) it does = record {
  next = it.next;
  one = it.one;
  more = it.more ++ one;
  does = it.does;
  then = serves_behind it.next q r it.more one a asked it.then does;
  joined = ap (λ t. t ++ one) it.joined ∙ append_assoc it.one it.more one;
}

bytes_behind : (asked : List Asked) (a : Asked) → flat_map bytes_of (asked ++ a ∷ []) ≡ flat_map bytes_of asked ++ bytes_of a
bytes_behind [] a = append-nil (bytes_of a)
bytes_behind (b ∷ asked) a = ap (λ t. bytes_of b ++ t) (bytes_behind asked a) ∙ sym (append_assoc (bytes_of b) (flat_map bytes_of asked) (bytes_of a))

pub goes_on : {p q r : Process} {a b c : List ℕ} {l m n o o' o'' : Option (List ℕ)}
    → Continues p q a b l m o o' → ServesOne q r b c m n o' o'' → Continues p r a c l n o o''
goes_on {p} {q} {r} {a} {b} {c} {l} {m} {n} {o} {o'} {o''} it next = record {
  asked = it.asked ++ next.asked ∷ [];
  said = it.said ++ next.said;
  serves = serves_behind p q r it.said next.said next.asked it.asked it.serves next.does;
  passes = subst (Passes a c l n) (sym (bytes_behind it.asked next.asked)) (passes_on it.passes next.passes);
  written = Appends-trans o o' o'' it.said next.said it.written next.written;
}

-- nothing was taken and nothing written
pub goes_by : {p q : Process} {a b c : List ℕ} {l m n o o' o'' : Option (List ℕ)}
    → Continues p q a b l m o o' → Passes b c m n [] → o'' ≡ o' → Continues p q a c l n o o''
goes_by {p} {q} {a} {b} {c} {l} {m} {n} {o} {o'} {o''} it next same = record {
  asked = it.asked;
  said = it.said;
  serves = it.serves;
  passes = passes_more it.passes next;
  written = subst (λ x. Appends o x it.said) (sym same) it.written;
}

-- ---- one command that stands ahead

-- the lines below the first one, cut out in either order
below_is : (end all : ℕ) (text : List ℕ) → end ≤ all → take (all - end) (drop end text) ≡ drop end (take all text)
below_is end all text ordered = sym (drop-take end (all - end) text) ∙ ap (λ k. drop end (take k text)) (omega (arith, ordered))

abbrev asked_at : (end all : ℕ) → List ℕ → Asked
asked_at end all text = record { first = take (end - 1) text; below = drop end (take all text) }

does_it : (p q : Process) (b : List ℕ) (said : List ℕ) (end all : ℕ) (seen : List ℕ) → IsCommandAt p b end all → seen ≡ b
    → Answers p (take (end - 1) seen) (take (all - end) (drop end seen)) q said → Does p (asked_at end all b) q said
does_it p q b said end all seen here same answers =
    let there : Answers p (take (end - 1) b) (take (all - end) (drop end b)) q said = subst (λ t. Answers p (take (end - 1) t) (take (all - end) (drop end t)) q said) same answers in
    record { is_asked = here.asked; answers = subst (λ t. Answers p (take (end - 1) b) t q said) (below_is end all b here.ordered) there }

pub serves_it : {p : Process} {a b c : List ℕ} {l m o o' : Option (List ℕ)} (q : Process) (said : List ℕ) (end all : ℕ) (seen : List ℕ)
    → IsCommandAt p b end all → Passes a b l m [] → seen ≡ b → c ≡ drop all b
    → Answers p (take (end - 1) seen) (take (all - end) (drop end seen)) q said → Appends o o' said
    → ServesOne p q a c l m o o'
serves_it {p} {a} {b} {c} {l} {m} {o} {o'} q said end all seen here passes same rest answers written = record {
  asked = asked_at end all b;
  said = said;
  does = does_it p q b said end all seen here same answers;
  passes = passes_front passes c (bytes_of (asked_at end all b)) (here.split ∙ ap (λ t. bytes_of (asked_at end all b) ++ t) (sym rest));
  written = written;
  at_hand = subst (λ t. length t < 65_536) (sym rest) here.at_hand;
}

pub stops_in_it : {p : Process} {a b : List ℕ} {l m o o' : Option (List ℕ)} (q : Process) (said : List ℕ) (end all : ℕ) (seen : List ℕ)
    → IsCommandAt p b end all → Passes a b l m [] → seen ≡ b
    → Answers p (take (end - 1) seen) (take (all - end) (drop end seen)) q said × AppendsPrefix o o' said
    → StopsWithin p a l m o o'
stops_in_it {p} {a} {b} {l} {m} {o} {o'} q said end all seen here passes same told = record {
  next = q;
  asked = asked_at end all b;
  said = said;
  rest = drop all b;
  does = does_it p q b said end all seen here same told.0;
  passes = subst (λ t. Passes a t l m []) here.split passes;
  written = told.1;
  at_hand = here.at_hand;
}

-- nothing more is asked
pub ends_it : {p q r : Process} {a b c : List ℕ} {l m n o o' o'' : Option (List ℕ)}
    → Continues p q a b l m o o' → EndsHere q r b c m n o' o'' → Continues p r a c l n o o''
ends_it {p} {q} {r} {a} {b} {c} {l} {m} {n} {o} {o'} {o''} it here =
    subst (λ x. Continues p x a c l n o o'') (sym here.process) (goes_by it here.passes here.written)

-- ---- the whole

module _ {k : ProcessKind} {p : Process} {b : List ℕ} {l m o o' : Option (List ℕ)} (begun : HasBegun k p [] b l m) where
  pub runs_of : {q : Process} {c : List ℕ} {n o'' : Option (List ℕ)} → Appends o o' (begun_text p) → Continues p q b c m n o' o'' → Runs k l n o o'' q c
  runs_of {q} {c} {n} {o''} written it =
      let all = passes_on begun.passes it.passes in
      record {
        bytes = all.came;
        consumed = all.consumed;
        said = begun_text p ++ it.said;
        is_run = record {
          begun = begun.text;
          asked = it.asked;
          joined = all.joined;
          first = p;
          begins = begun.begins;
          answers = it.said;
          serves = it.serves;
          is_said = refl;
        };
        written = Appends-trans o o' o'' (begun_text p) it.said written it.written;
      }

  pub ends_of : {q : Process} {c : List ℕ} {n o'' : Option (List ℕ)} → Appends o o' (begun_text p)
      → Continues p q b c m n o' o'' × IsAtEnd n × IsTorn q c → RunsToEnd k l n o o''
  ends_of {q} {c} {n} {o''} written it = record { last = q; piece = c; runs = runs_of written it.0; end = it.1; torn = it.2 }

  pub torn_later_of : {n o'' : Option (List ℕ)} → Appends o o' (begun_text p) → ContinuesWithin p b m n o' o'' → TornLater k l n o o''
  torn_later_of {n} {o''} written it = record {
    last = it.last;
    asked = it.stops.asked;
    piece = it.stops.rest;
    between = it.between;
    runs = runs_of written (goes_by it.continues it.stops.passes refl);
    at_hand = it.stops.at_hand;
    next = it.stops.next;
    one = it.stops.said;
    does = it.stops.does;
    written = it.stops.written;
  }

pub on_ok : {A E P Q : Type 0} (r : Result A E) → (P → Q) → OnOk r P → OnOk r Q
on_ok (Ok x) so p = so p
on_ok (Err e) so p = tt

pub on_err : {A E : Type 0} {P Q : E → Type 0} (r : Result A E) → ((e : E) → P e → Q e) → IfErr r P → IfErr r Q
on_err (Ok x) so p = tt
on_err (Err e) so p = so e p
