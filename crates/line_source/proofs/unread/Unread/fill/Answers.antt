-- One more block is read behind what was ahead.
use Rattle.std.proofs.Common.{◌≡◌, ◌∙◌, ℕ, ◌+◌, ◌-◌, ◌<◌, ◌≤◌, Bool, Err, Fits, List, [], ◌++◌, Ok, Option, Result, arith, ap, drop, length, ltb-false, ltb-true, max, min, refl, subst, sym, take, w64}
use Rattle.std.proofs.lemmas.List.{length-drop, take-append-drop, take-append-le, take_all}
use Rattle.std.proofs.lemmas.Result.{err_from_is_err_and}
use Rattle.counted_io.specs.Counts.{count_after}
use Rattle.line_source.specs.declared.faults.SourceFault.{SourceFault}
use Rattle.line_source.specs.declared.faults.SourceFault.TheVariants as fault
use Rattle.line_source.specs.Calls.{ReadsWithin}
use Rattle.line_source.specs.Faults.{tells_of_source}
use Rattle.line_source.specs.Inner.Blocks.{StandsBehind}
use Rattle.line_source.specs.Reading.{Ahead, IsStopped, Takes}
use Rattle.line_source.proofs.Calling.{came_none, no_fault, on_fault, takes_none, within_err, within_ok}
use Rattle.line_source.proofs.unread.Unread.fill.Given as given
use Rattle.line_source.proofs.unread.Unread.fill.Goals.{After-from_residual, After-read_behind, After-self, In_default}
use Rattle.line_source.proofs.unread.Unread.fill.Goals as goal

-- ---- over plain texts and numbers

-- the text that was ahead stands in front of the room
room_behind : (held ys : List ℕ) (at most : ℕ) → at ≡ length held → take at (take (at + most) held ++ ys) ≡ held
room_behind held ys at most is =
    ap (λ t. take at (t ++ ys)) (take_all (at + most) held (omega (arith, is))) ∙ take-append-le at held ys (omega (arith, is)) ∙ take_all at held (omega (arith, is))

-- so what was read stands behind it
reads : (held ys old new : List ℕ) (at most came r s : ℕ) (l m : Option (List ℕ))
    → at ≡ length held → old ≡ take (at + most) held ++ ys → StandsBehind at old new came l m → s ≡ r + came → Takes held new r s l m []
reads held ys old new at most came r s l m size is stands counted = record {
  came = drop at new;
  consumed = stands.consumed;
  joined = ap (λ t. t ++ drop at new) (sym (stands.prefix ∙ ap (take at) is ∙ room_behind held ys at most size)) ∙ take-append-drop at new;
  counted = let long = stands.size in omega (arith, counted, long, length-drop at new);
}

-- and is no more than was asked for
came_few : (at came most : ℕ) (old new : List ℕ) → length old ≡ at + most → (length new ≡ at + came) × (length new ≤ length old) → came ≤ most
came_few at came most old new is long = omega (arith, is, long.0, long.1)

-- no more is ahead than was read
held_few : (at from read size : ℕ) (held all : List ℕ) → at ≡ length held → held ≡ drop from all → size ≡ length all → size ≤ from + read → at ≤ read
held_few at from read size held all is left whole few = omega (arith, is, ap length left, length-drop from all, whole, few)

-- how much is asked for
some_asked : (read top most : ℕ) → top ≡ max (4_294_967_296 - read) 1 → most ≡ min 65_536 top → 1 ≤ most
some_asked read top most is least = omega (arith, is, least)

block_asked : (top most : ℕ) → most ≡ min 65_536 top → most ≤ 65_536
block_asked top most least = omega (arith, least)

one_beyond : (read top most came : ℕ) → read ≤ 4_294_967_296 → top ≡ max (4_294_967_296 - read) 1 → most ≡ min 65_536 top → came ≤ most → read + came ≤ 4_294_967_297
one_beyond read top most came short is least few = omega (arith, short, is, least, few)

at_limit : (read top most came : ℕ) → read ≤ 4_294_967_296 → top ≡ max (4_294_967_296 - read) 1 → most ≡ min 65_536 top → came ≤ most → 4_294_967_296 < read + came → read ≡ 4_294_967_296
at_limit read top most came short is least few more = omega (arith, short, is, least, few, more)

fits_with : (a b : ℕ) → a ≤ 4_294_967_296 → b ≤ 65_536 → Fits w64 (a + b)
fits_with a b short block = omega (arith, short, block)

block_more : (new held came most : ℕ) → new ≡ held + came → came ≤ most → most ≤ 65_536 → new ≤ held + 65_536
block_more new held came most is few block = omega (arith, is, few, block)

same_block : (new held : ℕ) → new ≡ held → new ≤ held + 65_536
same_block new held is = omega (arith, is)

room_left : (at most all : ℕ) → all ≡ at + most → 1 ≤ most → at < all
room_left at most all is some = omega (arith, is, some)

more_ahead : (held came new : ℕ) → new ≡ held + came → 0 < came → held < new
more_ahead held came new is some = omega (arith, is, some)

none_from : (came : ℕ) → came ≤ 0 → came ≡ 0
none_from came few = omega (arith, few)

none_more : (read came : ℕ) → came ≡ 0 → read + came ≡ read
none_more read came is = omega (arith, is)

in_read : (at read came len : ℕ) → at ≤ read → len ≡ at + came → len ≤ 0 + (read + came)
in_read at read came len few is = omega (arith, few, is)

none_read : (at read len : ℕ) → at ≤ read → len ≡ at + 0 → len ≤ 0 + read
none_read at read len few is = omega (arith, few, is)

same_read : (at read len : ℕ) → at ≤ read → len ≡ at → len ≤ 0 + read
same_read at read len few is = omega (arith, few, is)

le_trans : {a b c : ℕ} → a ≤ b → b ≤ c → a ≤ c
le_trans ab bc = omega (arith, ab, bc)

-- ---- answers

same_answer : {a b : Bool} → ◌≡◌ {A = Result Bool SourceFault} (Ok a) (Ok b) → a ≡ b
same_answer is = cc

no_memory : {read failed : ℕ} → read ≤ 4_294_967_296 → ReadsWithin {A = Bool} (Err fault.OutOfMemory) read failed failed
no_memory short = record { within = tt; most = omega (arith, short); reading = tt; count = refl }

-- the failed call is told of
read_failed : {A : Type 0} {told : SourceFault} {read failed failed' : ℕ} → told ≡ fault.Read → read ≤ 4_294_967_296 → failed' ≡ count_after (tells_of_source {A = A} (Err told)) failed → ReadsWithin {A = A} (Err told) read failed failed'
read_failed {A} {told} {read} {failed} {failed'} is short count =
    subst (λ (e : SourceFault). ReadsWithin {A = A} (Err e) read failed failed') (sym is) (record {
      within = tt;
      most = omega (arith, short);
      reading = tt;
      count = subst (λ (e : SourceFault). failed' ≡ count_after (tells_of_source {A = A} (Err e)) failed) is count;
    })

-- where nothing came, all is as it was
unchanged : (now : Ahead) {new : List ℕ} {s : ℕ} → new ≡ now.bytes → s ≡ now.read → ◌≡◌ {A = Ahead} (record { bytes = new; read = s }) now
unchanged now {new} {s} is same =
    subst (λ t. ◌≡◌ {A = Ahead} (record { bytes = t; read = s }) now) (sym is) (subst (λ n. ◌≡◌ {A = Ahead} (record { bytes = now.bytes; read = n }) now) (sym same) refl)

takes_same : (a b : List ℕ) (r s : ℕ) (l : Option (List ℕ)) → b ≡ a → s ≡ r → Takes a b r s l l []
takes_same a b r s l is same = subst (λ t. Takes a t r s l l []) (sym is) (subst (λ n. Takes a a r n l l []) (sym same) (takes_none a r l))

-- ---- at the calls

-- no more was read than may be
short : (g : given.Over) (c : After-self g) → c.self.inside.read ≤ 4_294_967_296
short g c = subst (λ u. u.read ≤ 4_294_967_296) (sym c.self.view_is) c.requires

-- what was ahead is all that is left at first
ahead_is : (g : given.Over) (c : After-read_behind g) → c.drop_prefix.new.bytes.items ≡ c.args.self.now.bytes
ahead_is g c = c.drop_prefix.ensures ∙ ap (λ u. u.bytes) c.self.view_is

size : (g : given.Over) (c : After-read_behind g) → c.len-length.result ≡ length c.drop_prefix.new.bytes.items
size g c = c.len-length.ensures ∙ c.drop_prefix.new.bytes.ok.0

-- all of it was read
few : (g : given.Over) (c : After-read_behind g) → c.len-length.result ≤ c.self.inside.read
few g c =
    held_few c.len-length.result c.self.inside.from c.self.inside.read c.self.inside.bytes.len c.drop_prefix.new.bytes.items c.self.inside.bytes.items (size g c) c.drop_prefix.ensures c.self.inside.bytes.ok.0
    c.self.invariant.1

-- a block is asked for at most
block : (g : given.Over) (c : After-read_behind g) → c.min-most.result ≤ 65_536
block g c = block_asked c.max.result c.min-most.result c.min-most.ensures

-- where there is no room, it stays
left_is : (g : given.Over) (c : In_default g) → c.resize.new.self.items ≡ c.args.self.now.bytes
left_is g c = c.in_default.ensures.items ∙ c.drop_prefix.ensures ∙ ap (λ u. u.bytes) c.self.view_is

-- so much came, and is ahead behind it
takes : (g : given.Over) (c : After-read_behind g) (came s : ℕ)
    → StandsBehind c.len-length.result c.resize.new.self.items c.read_behind.new.bytes.items came (g.S.Source.remaining c.args.source.now) (g.S.Source.remaining c.read_behind.new.source)
    → s ≡ c.self.inside.read + came
    → Takes c.args.self.now.bytes c.read_behind.new.bytes.items c.args.self.now.read s (g.S.Source.remaining c.args.source.now) (g.S.Source.remaining c.read_behind.new.source) []
takes g c came s stands counted =
    let l = g.S.Source.remaining c.args.source.now in
    let m = g.S.Source.remaining c.read_behind.new.source in
    subst (λ t. Takes t c.read_behind.new.bytes.items c.args.self.now.read s l m []) (ahead_is g c)
    (subst (λ r. Takes c.drop_prefix.new.bytes.items c.read_behind.new.bytes.items r s l m []) (ap (λ u. u.read) c.self.view_is)
    (reads c.drop_prefix.new.bytes.items _ c.resize.new.self.items c.read_behind.new.bytes.items c.len-length.result c.min-most.result came c.self.inside.read s l m (size g c) c.in-Ok.ensures.items stands counted))

-- no more than was asked for
came_asked : (g : given.Over) (c : After-read_behind g) (came : ℕ)
    → StandsBehind c.len-length.result c.resize.new.self.items c.read_behind.new.bytes.items came (g.S.Source.remaining c.args.source.now) (g.S.Source.remaining c.read_behind.new.source)
    → came ≤ c.min-most.result
came_asked g c came stands = came_few c.len-length.result came c.min-most.result c.resize.new.self.items c.read_behind.new.bytes.items (sym c.resize.new.self.ok.0 ∙ c.in-Ok.ensures.len) (stands.size, stands.bound)

-- so a block at most
within_block : (g : given.Over) (c : After-read_behind g) (came : ℕ)
    → StandsBehind c.len-length.result c.resize.new.self.items c.read_behind.new.bytes.items came (g.S.Source.remaining c.args.source.now) (g.S.Source.remaining c.read_behind.new.source)
    → length c.read_behind.new.bytes.items ≤ length c.args.self.now.bytes + 65_536
within_block g c came stands =
    block_more (length c.read_behind.new.bytes.items) (length c.args.self.now.bytes) came c.min-most.result
    (stands.size ∙ ap (λ n. n + came) (size g c ∙ ap length (ahead_is g c))) (came_asked g c came stands) (block g c)

-- the fault is that of the read
told : (g : given.Over) (c : After-from_residual g) → c.from_residual.result ≡ Err c.in_err-came.field-0.0
told g c = let p = err_from_is_err_and c.from_residual.result c.from_residual.ensures.1 in p.1 ∙ ap Err p.2

pub overflow_sub-self-inside : goal.overflow_sub-self-inside
overflow_sub-self-inside g c = short g c

pub drop_prefix-requires : goal.drop_prefix-requires
drop_prefix-requires g c = subst (λ n. c.self.inside.from ≤ n) c.self.inside.bytes.ok.0 c.self.invariant.0

pub overflow_add-length : goal.overflow_add-length
overflow_add-length g c =
    let at = goal.at.overflow_add-length g c in
    fits_with c.len-length.result c.min-most.result
    (le_trans
    (held_few c.len-length.result c.self.inside.from c.self.inside.read c.self.inside.bytes.len c.drop_prefix.new.bytes.items c.self.inside.bytes.items (c.len-length.ensures ∙ c.drop_prefix.new.bytes.ok.0)
    c.drop_prefix.ensures c.self.inside.bytes.ok.0 c.self.invariant.1)
    (short g at.After-self))
    (block_asked c.max.result c.min-most.result c.min-most.ensures)

-- ---- where there is no room

pub invariant_of-self : goal.invariant_of-self
invariant_of-self g c = (
  omega arith,
  same_read c.len-length.result c.self.inside.read c.resize.new.self.len
      (held_few c.len-length.result c.self.inside.from c.self.inside.read c.self.inside.bytes.len c.drop_prefix.new.bytes.items c.self.inside.bytes.items (c.len-length.ensures ∙ c.drop_prefix.new.bytes.ok.0)
      c.drop_prefix.ensures c.self.inside.bytes.ok.0 c.self.invariant.1)
      (c.in_default.ensures.len ∙ sym c.len-length.ensures),
)

pub returns-in_default-clause-takes : goal.returns-in_default-clause-takes
returns-in_default-clause-takes g c = takes_same c.args.self.now.bytes c.resize.new.self.items c.args.self.now.read c.self.inside.read (g.S.Source.remaining c.args.source.now) (left_is g c) (ap (λ u. u.read) c.self.view_is)

pub returns-in_default-clause-more : goal.returns-in_default-clause-more
returns-in_default-clause-more g c = λ is. no_fault (sym is)

pub returns-in_default-clause-end : goal.returns-in_default-clause-end
returns-in_default-clause-end g c = λ is. no_fault (sym is)

pub returns-in_default-clause-block : goal.returns-in_default-clause-block
returns-in_default-clause-block g c = same_block (length c.resize.new.self.items) (length c.args.self.now.bytes) (ap length (left_is g c))

pub returns-in_default-clause-stopped : goal.returns-in_default-clause-stopped
returns-in_default-clause-stopped g c = unchanged c.args.self.now (left_is g c) (ap (λ u. u.read) c.self.view_is)

pub returns-in_default-clause-reads : goal.returns-in_default-clause-reads
returns-in_default-clause-reads g c = no_memory (short g (goal.at.returns-in_default-clause-reads g c).After-self)

pub read_behind-requires : goal.read_behind-requires
read_behind-requires g c =
    room_left c.len-length.result c.min-most.result c.resize.new.self.len c.in-Ok.ensures.len
    (some_asked c.self.inside.read c.max.result c.min-most.result c.max.ensures c.min-most.ensures)

-- ---- where the read failed

pub invariant_of-self-in_err-came : goal.invariant_of-self-in_err-came
invariant_of-self-in_err-came g c =
    let at = goal.at.invariant_of-self-in_err-came g c in
    (omega arith, none_read c.len-length.result c.self.inside.read c.read_behind.new.bytes.len (few g at.After-read_behind) (c.read_behind.new.bytes.ok.0 ∙ c.in_err-came.ensures.stands.size))

pub returns-in_err-came-clause-takes : goal.returns-in_err-came-clause-takes
returns-in_err-came-clause-takes g c =
    let at = goal.at.returns-in_err-came-clause-takes g c in
    takes g at.After-read_behind 0 c.self.inside.read c.in_err-came.ensures.stands (omega arith)

pub returns-in_err-came-clause-more : goal.returns-in_err-came-clause-more
returns-in_err-came-clause-more g c = λ is. no_fault (sym is ∙ told g c)

pub returns-in_err-came-clause-end : goal.returns-in_err-came-clause-end
returns-in_err-came-clause-end g c = λ is. no_fault (sym is ∙ told g c)

pub returns-in_err-came-clause-block : goal.returns-in_err-came-clause-block
returns-in_err-came-clause-block g c =
    let at = goal.at.returns-in_err-came-clause-block g c in
    within_block g at.After-read_behind 0 c.in_err-came.ensures.stands

pub returns-in_err-came-clause-stopped : goal.returns-in_err-came-clause-stopped
returns-in_err-came-clause-stopped g c =
    let at = goal.at.returns-in_err-came-clause-stopped g c in
    let same = ap (λ u. u.read) c.self.view_is in
    let none = takes g at.After-read_behind 0 c.self.inside.read c.in_err-came.ensures.stands (omega arith) in
    on_fault (IsStopped c.args.self.now _) (told g c ∙ ap Err c.in_err-came.ensures.fault) (unchanged c.args.self.now (came_none none same) same)

pub returns-in_err-came-clause-reads : goal.returns-in_err-came-clause-reads
returns-in_err-came-clause-reads g c =
    within_err {A = ℕ} c.in_err-came.field-0.0 (told g c) refl
    (read_failed c.in_err-came.ensures.fault (short g (goal.at.returns-in_err-came-clause-reads g c).After-self) c.in_err-came.ensures.count)

-- ---- where too much came

pub overflow_add-self : goal.overflow_add-self
overflow_add-self g c =
    let at = goal.at.overflow_add-self g c in
    fits_with c.self.inside.read c.in_ok-came.came (short g at.After-self)
    (le_trans (came_asked g at.After-read_behind c.in_ok-came.came c.in_ok-came.ensures.stands) (block g at.After-read_behind))

pub invariant_of-self-then-self-gt-MOST_BYTES : goal.invariant_of-self-then-self-gt-MOST_BYTES
invariant_of-self-then-self-gt-MOST_BYTES g c =
    let at = goal.at.invariant_of-self-then-self-gt-MOST_BYTES g c in
    (omega arith, in_read c.len-length.result c.self.inside.read c.in_ok-came.came c.read_behind.new.bytes.len (few g at.After-read_behind) (c.read_behind.new.bytes.ok.0 ∙ c.in_ok-came.ensures.stands.size))

pub returns-then-self-gt-MOST_BYTES-clause-takes : goal.returns-then-self-gt-MOST_BYTES-clause-takes
returns-then-self-gt-MOST_BYTES-clause-takes g c =
    let at = goal.at.returns-then-self-gt-MOST_BYTES-clause-takes g c in
    takes g at.After-read_behind c.in_ok-came.came (c.self.inside.read + c.in_ok-came.came) c.in_ok-came.ensures.stands refl

pub returns-then-self-gt-MOST_BYTES-clause-block : goal.returns-then-self-gt-MOST_BYTES-clause-block
returns-then-self-gt-MOST_BYTES-clause-block g c =
    let at = goal.at.returns-then-self-gt-MOST_BYTES-clause-block g c in
    within_block g at.After-read_behind c.in_ok-came.came c.in_ok-came.ensures.stands

pub returns-then-self-gt-MOST_BYTES-clause-more : goal.returns-then-self-gt-MOST_BYTES-clause-more
returns-then-self-gt-MOST_BYTES-clause-more g c = λ is. no_fault (sym is)

pub returns-then-self-gt-MOST_BYTES-clause-end : goal.returns-then-self-gt-MOST_BYTES-clause-end
returns-then-self-gt-MOST_BYTES-clause-end g c = λ is. no_fault (sym is)

pub returns-then-self-gt-MOST_BYTES-clause-stopped : goal.returns-then-self-gt-MOST_BYTES-clause-stopped
returns-then-self-gt-MOST_BYTES-clause-stopped g c =
    let at = goal.at.returns-then-self-gt-MOST_BYTES-clause-stopped g c in
    let few = came_asked g at.After-read_behind c.in_ok-came.came c.in_ok-came.ensures.stands in
    sym (ap (λ u. u.read) c.self.view_is) ∙ at_limit c.self.inside.read c.max.result c.min-most.result c.in_ok-came.came (short g at.After-self) c.max.ensures c.min-most.ensures few c.if-self-gt-MOST_BYTES.true

pub returns-then-self-gt-MOST_BYTES-clause-reads : goal.returns-then-self-gt-MOST_BYTES-clause-reads
returns-then-self-gt-MOST_BYTES-clause-reads g c =
    let at = goal.at.returns-then-self-gt-MOST_BYTES-clause-reads g c in
    let few = came_asked g at.After-read_behind c.in_ok-came.came c.in_ok-came.ensures.stands in
    record {
      within = tt;
      most = one_beyond c.self.inside.read c.max.result c.min-most.result c.in_ok-came.came (short g at.After-self) c.max.ensures c.min-most.ensures few;
      reading = c.if-self-gt-MOST_BYTES.true;
      count = c.in_ok-came.ensures.count;
    }

-- ---- where it did not

pub invariant_of-self-2 : goal.invariant_of-self-2
invariant_of-self-2 g c =
    let at = goal.at.invariant_of-self-2 g c in
    (omega arith, in_read c.len-length.result c.self.inside.read c.in_ok-came.came c.read_behind.new.bytes.len (few g at.After-read_behind) (c.read_behind.new.bytes.ok.0 ∙ c.in_ok-came.ensures.stands.size))

pub returns-clause-takes : goal.returns-clause-takes
returns-clause-takes g c =
    let at = goal.at.returns-clause-takes g c in
    takes g at.After-read_behind c.in_ok-came.came (c.self.inside.read + c.in_ok-came.came) c.in_ok-came.ensures.stands refl

pub returns-clause-block : goal.returns-clause-block
returns-clause-block g c =
    let at = goal.at.returns-clause-block g c in
    within_block g at.After-read_behind c.in_ok-came.came c.in_ok-came.ensures.stands

pub returns-clause-more : goal.returns-clause-more
returns-clause-more g c = λ is.
    let at = goal.at.returns-clause-more g c in
    more_ahead (length c.args.self.now.bytes) c.in_ok-came.came (length c.read_behind.new.bytes.items)
    (c.in_ok-came.ensures.stands.size ∙ ap (λ n. n + c.in_ok-came.came) (size g at.After-read_behind ∙ ap length (ahead_is g at.After-read_behind))) (ltb-true 0 c.in_ok-came.came (same_answer is))

pub returns-clause-end : goal.returns-clause-end
returns-clause-end g c = λ is.
    let at = goal.at.returns-clause-end g c in
    let none : c.in_ok-came.came ≡ 0 = none_from c.in_ok-came.came (ltb-false 0 c.in_ok-came.came (same_answer is)) in
    let same : c.self.inside.read + c.in_ok-came.came ≡ c.self.inside.read = none_more c.self.inside.read c.in_ok-came.came none in
    let more = takes g at.After-read_behind c.in_ok-came.came (c.self.inside.read + c.in_ok-came.came) c.in_ok-came.ensures.stands refl in
    (unchanged c.args.self.now (came_none more (same ∙ ap (λ u. u.read) c.self.view_is)) (same ∙ ap (λ u. u.read) c.self.view_is), c.in_ok-came.ensures.end (ap Ok none))

pub returns-clause-stopped : goal.returns-clause-stopped
returns-clause-stopped g c = tt

pub returns-clause-reads : goal.returns-clause-reads
returns-clause-reads g c = within_ok _ c.if-self-gt-MOST_BYTES.false c.in_ok-came.ensures.count
