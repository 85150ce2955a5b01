-- Reading on, and taking what was read: one after the other, and a line by its parts.
use Rattle.std.proofs.Common.{◌≡◌, ℕ, ◌+◌, ◌≤◌, Bool, true, false, List, [], ◌∷◌, ◌++◌, take, drop, Option, refl, sym, ap, ◌∙◌, arith, append_assoc, append-nil, length, leb, leb-true, subst}
use Rattle.std.proofs.KnownBytes.{Consumes-trans}
use Rattle.std.proofs.lemmas.Bool.{leb-false}
use Rattle.std.proofs.lemmas.List.{length-append, nil_from_length}
use Rattle.metering_model.specs.Batch.{lacks}
use Rattle.metering_model.specs.Transcript.{line}
use Rattle.metering_model.proofs.Splitting.{list_all_both}
use Rattle.line_source.specs.Lines.{IsLineAt}
use Rattle.line_source.specs.declared.faults.SourceFault.{SourceFault}
use Rattle.line_source.specs.declared.faults.SourceFault.TheVariants as fault
use Rattle.line_source.specs.Reading.{IsLastBlock, IsLastByte, ReadsUpTo, ReadsWhile, StopsShort, Takes, TakesLine, TakesPart, TakesWhile}

-- ---- bytes that came, and those that were taken

module _ {a b : List ℕ} {r s : ℕ} {l m : Option (List ℕ)} {xs : List ℕ} (it : Takes a b r s l m xs) where
  pub takes_on : {c : List ℕ} {t : ℕ} {n : Option (List ℕ)} {ys : List ℕ} → Takes b c s t m n ys → Takes a c r t l n (xs ++ ys)
  takes_on {c} {t} {n} {ys} next = record {
    came = it.came ++ next.came;
    consumed = Consumes-trans l m n it.came next.came it.consumed next.consumed;
    joined =
        sym (append_assoc a it.came next.came) ∙ ap (λ u. u ++ next.came) it.joined ∙ append_assoc xs b next.came
        ∙ ap (λ u. xs ++ u) next.joined ∙ sym (append_assoc xs ys c);
    counted = let first = it.counted in let second = next.counted in omega (arith, first, second, length-append it.came next.came);
  }

  -- more is read, and nothing taken
  pub reads_on : {c : List ℕ} {t : ℕ} {n : Option (List ℕ)} → Takes b c s t m n [] → Takes a c r t l n xs
  reads_on {c} {t} {n} next = subst (Takes a c r t l n) (append-nil xs) (takes_on next)

  -- some of what is ahead is taken
  pub takes_prefix : (c ys : List ℕ) → b ≡ ys ++ c → Takes a c r s l m (xs ++ ys)
  takes_prefix c ys is = record {
    came = it.came;
    consumed = it.consumed;
    joined = it.joined ∙ ap (λ u. xs ++ u) is ∙ sym (append_assoc xs ys c);
    counted = it.counted;
  }

  -- or all
  pub takes_all : Takes a [] r s l m (xs ++ b)
  takes_all = takes_prefix [] b (sym (append-nil b))

  -- or a line that ends there
  pub takes_line : {c : List ℕ} {s' : ℕ} (ends : (end : ℕ) × IsLineAt b end × (c ≡ drop (end + 1) b)) → s' ≡ s → Takes a c r s' l m (xs ++ line (take ends.0 b))
  takes_line {c} {s'} ends same =
      let text = take ends.0 b in
      subst (λ (x : ℕ). Takes a c r x l m (xs ++ line text)) (sym same) (takes_prefix c (line text) (ends.1.split ∙ ap (λ t. line text ++ t) (sym ends.2)))

  -- what came was read, whatever was taken
  pub only_read : Takes a (a ++ it.came) r s l m []
  only_read = record { came = it.came; consumed = it.consumed; joined = refl; counted = it.counted }

  -- whatever is taken then
  pub taken_on : {c : List ℕ} {t : ℕ} {n : Option (List ℕ)} → (taken : List ℕ) × Takes b c s t m n taken → (taken : List ℕ) × Takes a c r t l n taken
  taken_on next = (xs ++ next.0, takes_on next.1)

-- ---- within so many bytes

-- one call after the other reads no further than each does
pub up_to_on : (most : ℕ) (a b c : List ℕ) → ReadsUpTo most a b → ReadsUpTo most b c → ReadsUpTo most a c
up_to_on most a b c first next longer = by (leb (length c) (length b)) refl
  where
    by : (is_first : Bool) → leb (length c) (length b) ≡ is_first → length c ≤ most + 65_536
    by true e = let low = leb-true (length c) (length b) e in let in_first = first (omega (arith, low, longer)) in omega (arith, low, in_first)
    by false e = next (leb-false (length c) (length b) e)

-- ---- only while what is ahead does not suffice

-- one call after the other, each only for want of the same
pub while_on : {a b c : List ℕ} {r s t : ℕ} {l m n : Option (List ℕ)} (is_short : List ℕ → Type 0)
    → Takes a b r s l m [] → Takes b c s t m n [] → ReadsWhile is_short a b → ReadsWhile is_short b c → ReadsWhile is_short a c
while_on {a} {b} {c} is_short it then first next longer = by (leb (length c) (length b)) refl
  where
    by : (is_first : Bool) → leb (length c) (length b) ≡ is_first → IsLastBlock is_short a c
    by true e =
        let low = leb-true (length c) (length b) e in
        let none : then.came ≡ [] = nil_from_length then.came (let size = ap length then.joined in omega (arith, low, size, length-append b then.came)) in
        let same : b ≡ c = sym (append-nil b) ∙ ap (λ t. b ++ t) (sym none) ∙ then.joined in
        subst (IsLastBlock is_short a) same (first (omega (arith, low, longer)))
    by false e =
        let more = next (leb-false (length c) (length b) e) in
        let held : b ++ more.before ≡ a ++ (it.came ++ more.before) = ap (λ t. t ++ more.before) (sym it.joined) ∙ append_assoc a it.came more.before in
        record {
          before = it.came ++ more.before;
          last = more.last;
          joined = more.joined ∙ ap (λ t. t ++ more.last) held;
          block = more.block;
          short = subst is_short held more.short;
        }

-- where what does not suffice for the one does not for the other either
pub while_for : {a b : List ℕ} {is_short is_shorter : List ℕ → Type 0} → ((before : List ℕ) → is_short (a ++ before) → is_shorter (a ++ before)) → ReadsWhile is_short a b → ReadsWhile is_shorter a b
while_for weaker it longer =
    let more = it longer in
    record { before = more.before; last = more.last; joined = more.joined; block = more.block; short = weaker more.before more.short }

-- the byte beyond the most, where both hold
byte_on : {a b c : List ℕ} {r s : ℕ} {l m : Option (List ℕ)} {is_short is_shorter : List ℕ → Type 0}
    → Takes a b r s l m [] → ((before : List ℕ) → is_short (b ++ before) → is_shorter (b ++ before)) → IsLastByte is_short b c → IsLastByte is_shorter a c
byte_on {a} {b} {c} {r} {s} {l} {m} {is_short} {is_shorter} it weaker more =
    let held : b ++ more.before ≡ a ++ (it.came ++ more.before) = ap (λ t. t ++ more.before) (sym it.joined) ∙ append_assoc a it.came more.before in
    record {
      before = it.came ++ more.before;
      last = more.last;
      joined = more.joined ∙ ap (λ t. t ++ more.last) held;
      one = more.one;
      short = subst is_shorter held (weaker more.before more.short);
    }

-- where a fault stops it
pub stops_on : {a b c : List ℕ} {r s t : ℕ} {l m n : Option (List ℕ)} (is_short is_shorter : List ℕ → Type 0) (told : SourceFault)
    → Takes a b r s l m [] → Takes b c s t m n [] → ((before : List ℕ) → is_short (b ++ before) → is_shorter (b ++ before))
    → StopsShort is_short b c told → StopsShort is_shorter a c told
stops_on is_short is_shorter fault.TooLong it then weaker short = byte_on it weaker short
stops_on is_short is_shorter fault.Read it then weaker short = subst is_shorter then.joined (weaker then.came (subst is_short (sym then.joined) short))
stops_on is_short is_shorter fault.OutOfMemory it then weaker short = subst is_shorter then.joined (weaker then.came (subst is_short (sym then.joined) short))

-- ---- a line by its parts

module _ {a b : List ℕ} {r s : ℕ} {l m : Option (List ℕ)} (it : TakesPart a b r s l m) where
  -- all that is ahead is a part of it, and more came
  pub part_on : {c e : List ℕ} {s' t : ℕ} {n : Option (List ℕ)} → (lacks 10 b ≡ true) × (c ≡ []) → s' ≡ s → Takes c e s' t m n [] → TakesPart a e r t l n
  part_on {c} {e} {s'} {t} {n} all same reads =
      let more : Takes [] e s' t m n [] = subst (λ (x : List ℕ). Takes x e s' t m n []) all.1 reads in
      let on : Takes [] e s t m n [] = subst (λ (x : ℕ). Takes [] e x t m n []) same more in
      record {
        part = it.part ++ b;
        lacks_feed = list_all_both _ it.part b it.lacks_feed all.0;
        takes = reads_on (takes_all it.takes) on;
      }

  -- the line ends ahead
  pub line_on : {c : List ℕ} {s' : ℕ} → (end : ℕ) × IsLineAt b end × (c ≡ drop (end + 1) b) → s' ≡ s → TakesLine a c r s' l m
  line_on {c} {s'} ends same =
      let text = take ends.0 b in
      record {
        text = it.part ++ text;
        lacks_feed = list_all_both _ it.part text it.lacks_feed ends.1.whole;
        takes = subst (Takes a c r s' l m) (sym (append_assoc it.part text (10 ∷ []))) (takes_line it.takes ends same);
      }

-- ---- a line by its parts, of which more is read only while it does not end

-- no line feed stands in what is ahead
abbrev pub LacksFeed : List ℕ → Type 0
LacksFeed held = lacks 10 held ≡ true

-- A part of a line was taken, and more was read only while no line feed had come.
pub record PassesPart (a b : List ℕ) (r s : ℕ) (l m : Option (List ℕ)) : Type 0 where
  pub takes : TakesPart a b r s l m
  pub last : ReadsWhile LacksFeed a (takes.part ++ b)

-- a part and a line that ends behind it are the whole line
all_of_line : (part : List ℕ) {b c : List ℕ} (ends : (end : ℕ) × IsLineAt b end × (c ≡ drop (end + 1) b)) → line (part ++ take ends.0 b) ++ c ≡ part ++ b
all_of_line part {b} {c} ends =
    let text = take ends.0 b in
    ap (λ t. t ++ c) (append_assoc part text (10 ∷ [])) ∙ append_assoc part (line text) c ∙ ap (λ t. part ++ (line text ++ t)) ends.2
    ∙ ap (λ t. part ++ t) (sym ends.1.split)

-- nothing was taken or read yet
pub passes_none : {a : List ℕ} {r : ℕ} {l : Option (List ℕ)} → Takes a a r r l l [] → PassesPart a a r r l l
passes_none {a} it = record { takes = record { part = []; lacks_feed = refl; takes = it }; last = λ longer. absurd (omega (arith, longer)) }

module _ {a b : List ℕ} {r s : ℕ} {l m : Option (List ℕ)} (it : PassesPart a b r s l m) where
  -- all that is ahead is a part of the line, and a block more came at most
  pub passes_on : {c e : List ℕ} {s' t : ℕ} {n : Option (List ℕ)} → (lacks 10 b ≡ true) × (c ≡ []) → s' ≡ s → Takes c e s' t m n [] → length e ≤ length c + 65_536 → PassesPart a e r t l n
  unfolding part_on
  passes_on {c} {e} {s'} {t} {n} all same reads block = record {
    takes = part_on it.takes all same reads;
    last = λ longer. record {
      before = it.takes.takes.came;
      last = e;
      joined = ap (λ u. u ++ e) (sym it.takes.takes.joined);
      block = (let none = ap length all.1 in omega (arith, block, none));
      short = ap (lacks 10) it.takes.takes.joined ∙ list_all_both _ it.takes.part b it.takes.lacks_feed all.0;
    };
  }

  -- the line ends ahead
  pub passes_line : {c : List ℕ} {s' : ℕ} → (end : ℕ) × IsLineAt b end × (c ≡ drop (end + 1) b) → s' ≡ s → TakesWhile LacksFeed a c r s' l m
  unfolding line_on
  passes_line {c} {s'} ends same =
      let whole = line_on it.takes ends same in
      record {
        taken = line whole.text;
        takes = whole.takes;
        last = subst (ReadsWhile LacksFeed a) (sym (all_of_line it.takes.part ends)) it.last;
      }

  -- or does not
  pub passes_some : TakesWhile LacksFeed a b r s l m
  passes_some = record { taken = it.takes.part; takes = it.takes.takes; last = it.last }

-- no more came, and the line does not end
pub part_ends : {a b : List ℕ} {r s : ℕ} {l m : Option (List ℕ)} → TakesPart a b r s l m → b ≡ [] → TakesPart a [] r s l m
part_ends {a} {b} {r} {s} {l} {m} it none = subst (λ (x : List ℕ). TakesPart a x r s l m) none it
