-- What came stands behind the first bytes, and no more than came is left of the room.
use Rattle.std.proofs.Common.{◌≡◌, ◌∙◌, ◌+◌, ◌<◌, ◌≤◌, ℕ, Err, List, [], Ok, Result, length, take, drop, Option, sym, ap, subst, arith}
use Rattle.std.specs.Io.KnownBytes.{Consumes, Keeps}
use Rattle.std.proofs.KnownBytes.{Consumes-kept, Consumes-nil}
use Rattle.std.proofs.lemmas.List.{drop-take, length-drop, length-take-le, take-take}
use Rattle.line_source.specs.declared.faults.SourceFault.{SourceFault}
use Rattle.line_source.specs.Inner.Blocks.{StandsBehind}
use Rattle.line_source.proofs.unread.read_behind.Goals as goal

stands : (at came : ℕ) (old room new : List ℕ) (l m : Option (List ℕ)) → at < length old → take at room ≡ take at old → length room ≡ length old → came ≤ length (drop at room) → Consumes l m (take came (drop at room)) → new ≡ take (at + came) room
    → StandsBehind at old new came l m
stands at came old room new l m within prefix same fits consumed is =
    let left = length-drop at room in
    let size : length new ≡ at + came = ap length is ∙ length-take-le (at + came) room (omega (arith, within, same, fits, left)) in
    record {
      prefix = ap (take at) is ∙ take-take at (at + came) room (omega arith) ∙ prefix;
      size = size;
      bound = omega (arith, size, within, same, fits, left);
      consumed = subst (Consumes l m) (sym (ap (drop at) is ∙ drop-take at came room)) consumed;
    }

pub returns-in-Ok-clause-stands : goal.returns-in-Ok-clause-stands
returns-in-Ok-clause-stands g c =
    let reads = c.in-Ok.ensures.reads in
    stands c.args.length c.in-Ok.came c.args.bytes.now.items c.read_room.new.bytes.items c.truncate.new.self.items _ _ (omega arith) c.read_room.ensures.prefix (omega arith) reads.bound.0 reads.consumed.0 c.truncate.ensures.items

-- at a fault nothing came
none_stands : (at : ℕ) (old room new : List ℕ) (l m : Option (List ℕ)) → at < length old → take at room ≡ take at old → length room ≡ length old → Keeps l m → new ≡ take at room → StandsBehind at old new 0 l m
none_stands at old room new l m within prefix same kept is =
    stands at 0 old room new l m within prefix same (omega arith) (Consumes-kept l l m [] (Consumes-nil l) kept) (is ∙ ap (λ n. take n room) (omega arith))

-- and what came is none only at the end
came_none : {came : ℕ} → ◌≡◌ {A = Result ℕ SourceFault} (Ok came) (Ok 0) → came ≡ 0
came_none is = cc

no_answer : {told : SourceFault} {P : Type 0} → ◌≡◌ {A = Result ℕ SourceFault} (Err told) (Ok 0) → P
no_answer is = absurd cc

some_room : (at : ℕ) (old room : List ℕ) → at < length old → length room ≡ length old → 0 < length (drop at room)
some_room at old room within same = omega (arith, within, same, length-drop at room)

pub returns-in-Ok-clause-end : goal.returns-in-Ok-clause-end
returns-in-Ok-clause-end g c = λ is.
    c.in-Ok.ensures.reads.consumed.1 (came_none is) (some_room c.args.length c.args.bytes.now.items c.read_room.new.bytes.items (omega arith) (omega arith))

pub returns-in-Err-clause-stands : goal.returns-in-Err-clause-stands
returns-in-Err-clause-stands g c =
    none_stands c.args.length c.args.bytes.now.items c.read_room.new.bytes.items c.truncate-in-Err.new.self.items _ _ (omega arith) c.read_room.ensures.prefix (omega arith) c.in-Err.ensures.reads.consumed c.truncate-in-Err.ensures.items

pub returns-in-Err-clause-end : goal.returns-in-Err-clause-end
returns-in-Err-clause-end g c = λ is. no_answer is
