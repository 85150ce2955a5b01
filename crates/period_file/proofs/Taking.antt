-- Copying what was read, and dropping it: one after the other.
use Rattle.std.proofs.Common.{◌≡◌, ℕ, ◌+◌, List, [], ◌++◌, length, take, drop, Option, sym, ap, ◌∙◌, arith, append-nil, subst, Result, Ok, Err, OnErr}
use Rattle.std.specs.Io.KnownBytes.{Appends}
use Rattle.std.proofs.KnownBytes.{Appends-trans}
use Rattle.std.proofs.lemmas.List.{length-append, take-append-drop}
use Rattle.std.proofs.Math.Seq.{take-append_seam}
use Rattle.metering_model.specs.Schedule.{lines_text}
use Rattle.counted_io.specs.Writing.{AppendsSome, AppendsPrefix}
use Rattle.counted_io.proofs.Prefixes.{prefix_behind}
use Rattle.line_source.specs.Reading.{Takes}
use Rattle.line_source.proofs.Taking.{reads_on, takes_prefix}
use Rattle.transcript_laws.proofs.TextLaws.{lines_append, whole_both}
use Rattle.period_file.specs.Inner.Reading.{CopiesAhead, StopsAhead, Copies, Stops}

-- ---- what was written

pub some_of_prefix : (old new : Option (List ℕ)) (xs : List ℕ) → AppendsPrefix old new xs → AppendsSome old new xs
some_of_prefix old new xs it = let short = it.1 in (it.0, omega (arith, short), it.2)

pub some_of_all : (old new : Option (List ℕ)) (xs : List ℕ) → Appends old new xs → AppendsSome old new xs
some_of_all old new xs it = (length xs, omega arith, subst (Appends old new) (sym (ap (take (length xs)) (sym (append-nil xs)) ∙ take-append_seam xs [])) it)

-- ---- copying on

-- reading on copies nothing
pub copies_read : {asked lacking : ℕ} {a b c : List ℕ} {r s t : ℕ} {l m n u v : Option (List ℕ)} → Copies asked lacking a b r s l m u v → Takes b c s t m n [] → Copies asked lacking a c r t l n u v
copies_read it reads = record {
  lines = it.lines;
  whole = it.whole;
  counted = it.counted;
  takes = reads_on it.takes reads;
  appended = it.appended;
}

module _ {asked lacking : ℕ} {a b : List ℕ} {r s : ℕ} {l m u v : Option (List ℕ)} (it : Copies asked lacking a b r s l m u v) where
  pub copies_on : {count rest : ℕ} {c : List ℕ} {w : Option (List ℕ)} → CopiesAhead count b c v w → rest + count ≡ lacking → Copies asked rest a c r s l m u w
  copies_on {count} {rest} {c} {w} ahead is = record {
    lines = it.lines ++ ahead.lines;
    whole = whole_both it.lines ahead.lines it.whole ahead.whole;
    counted = let sum = length-append it.lines ahead.lines in let one = it.counted in let two = ahead.counted in omega (arith, sum, one, two, is);
    takes = subst (Takes a c r s l m) (sym (lines_append it.lines ahead.lines)) (takes_prefix it.takes c (lines_text ahead.lines) ahead.split);
    appended =
        subst (Appends u w) (sym (lines_append it.lines ahead.lines)) (Appends-trans u v w (lines_text it.lines) (lines_text ahead.lines) it.appended ahead.appended);
  }

  -- it stops where a read fails
  pub stops_at_read : Stops AppendsSome asked a r s l m u v
  stops_at_read = record {
    lines = it.lines;
    rest = b;
    whole = it.whole;
    few = let counted = it.counted in omega (arith, counted);
    takes = it.takes;
    appended = some_of_all u v (lines_text it.lines) it.appended;
  }

  -- or a write
  pub stops_at_write : {w : Option (List ℕ)} → StopsAhead lacking b v w → Stops AppendsPrefix asked a r s l m u w
  stops_at_write {w} ahead = record {
    lines = it.lines ++ ahead.lines;
    rest = ahead.rest;
    whole = whole_both it.lines ahead.lines it.whole ahead.whole;
    few = let sum = length-append it.lines ahead.lines in let one = it.counted in let two = ahead.few in omega (arith, sum, one, two);
    takes = subst (Takes a ahead.rest r s l m) (sym (lines_append it.lines ahead.lines)) (takes_prefix it.takes ahead.rest (lines_text ahead.lines) ahead.split);
    appended =
        subst (AppendsPrefix u w) (sym (lines_append it.lines ahead.lines))
        (prefix_behind u v w (lines_text it.lines) (lines_text ahead.lines) it.appended ahead.appended);
  }

-- short of all, it is some of it
pub stops_some : {asked : ℕ} {a : List ℕ} {r t : ℕ} {l n u w : Option (List ℕ)} → Stops AppendsPrefix asked a r t l n u w → Stops AppendsSome asked a r t l n u w
stops_some {asked} {a} {r} {t} {l} {n} {u} {w} it = record {
  lines = it.lines;
  rest = it.rest;
  whole = it.whole;
  few = it.few;
  takes = it.takes;
  appended = some_of_prefix u w (lines_text it.lines) it.appended;
}

-- ---- dropping what was read

pub drops_on : {a b c e : List ℕ} {r s s' t : ℕ} {l m n : Option (List ℕ)} → (taken : List ℕ) × Takes a b r s l m taken → (k : ℕ) → c ≡ drop k b → s' ≡ s → Takes c e s' t m n []
    → (taken : List ℕ) × Takes a e r t l n taken
drops_on {a} {b} {c} {e} {r} {s} {s'} {t} {l} {m} {n} it k is same reads =
    let parts : b ≡ take k b ++ c = sym (take-append-drop k b) ∙ ap (λ u. take k b ++ u) (sym is) in
    let more : Takes c e s t m n [] = subst (λ (x : ℕ). Takes c e x t m n []) same reads in
    (it.0 ++ take k b, reads_on (takes_prefix it.1 c (take k b) parts) more)

-- ---- answers that are results

pub on_err : {T E P : Type 0} (r : Result T E) → P → OnErr r P
on_err (Ok x) p = tt
on_err (Err e) p = p
