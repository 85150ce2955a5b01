-- A call that reads ahead by other calls: what it says of itself, and for want of what its last bytes were read.
use Rattle.std.proofs.Common.{◌≡◌, ℕ, ◌+◌, ◌-◌, ◌<◌, ◌≤◌, List, [], ◌++◌, length, IfErr, Option, Result, Ok, Err, sym, ap, ◌∙◌, append-nil, arith, subst}
use Rattle.std.proofs.KnownBytes.{Consumes-nil}
use Rattle.std.proofs.lemmas.List.{length-append, nil_from_length}
use Rattle.metering_model.specs.Limits.{most_transcript_bytes}
use Rattle.line_source.specs.declared.faults.SourceFault.{SourceFault}
use Rattle.line_source.specs.declared.faults.SourceFault.TheVariants as fault
use Rattle.line_source.specs.Calls.{ReadsWithin}
use Rattle.line_source.specs.Reading.{Ahead, IsLastByte, IsStopped, ReadsWhile, StopsShort, Takes}

-- ---- its answer

-- it answers: what was read is within the limit, and no call failed
pub within_ok : {A : Type 0} (answer : A) {read failed failed' : ℕ} → read ≤ 4_294_967_296 → failed' ≡ failed → ReadsWithin (Ok answer) read failed failed'
within_ok answer short quiet = record { within = short; most = omega (arith, short); reading = tt; count = quiet }

-- where what it called answers, no call failed
pub still_quiet : {A : Type 0} {answer : A} {read middle failed failed' : ℕ} → middle ≡ failed → ReadsWithin (Ok answer) read middle failed' → failed' ≡ failed
still_quiet quiet reads = reads.count ∙ quiet

-- so it may answer something else
pub within_on : {A B : Type 0} {answer : A} {other : B} {read middle failed failed' : ℕ} → middle ≡ failed → ReadsWithin (Ok answer) read middle failed' → ReadsWithin (Ok other) read failed failed'
within_on quiet reads = within_ok _ reads.within (still_quiet quiet reads)

-- or it passes on a fault
pub within_err : {A B : Type 0} (told : SourceFault) {r : Result B SourceFault} {read middle failed failed' : ℕ}
    → r ≡ Err told → middle ≡ failed → ReadsWithin {A = A} (Err told) read middle failed' → ReadsWithin r read failed failed'
within_err {A} {B} told {r} {read} {middle} {failed} {failed'} is quiet reads =
    subst (λ (x : Result B SourceFault). ReadsWithin x read failed failed') (sym is) (subst (λ (x : ℕ). ReadsWithin {A = B} (Err told) read x failed') quiet (by told reads))
  where
    by : (e : SourceFault) → ReadsWithin {A = A} (Err e) read middle failed' → ReadsWithin {A = B} (Err e) read middle failed'
    by fault.TooLong it = record { within = tt; most = it.most; reading = it.reading; count = it.count }
    by fault.Read it = record { within = tt; most = it.most; reading = tt; count = it.count }
    by fault.OutOfMemory it = record { within = tt; most = it.most; reading = tt; count = it.count }

-- of which something holds
pub on_fault : {B : Type 0} (Holds : SourceFault → Type 0) {told : SourceFault} {r : Result B SourceFault} → r ≡ Err told → Holds told → IfErr r Holds
on_fault {B} Holds {told} {r} is it = subst (λ (x : Result B SourceFault). IfErr x Holds) (sym is) it

-- an answer is no fault
pub no_fault : {A P : Type 0} {answer : A} {told : SourceFault} → ◌≡◌ {A = Result A SourceFault} (Ok answer) (Err told) → P
no_fault is = absurd cc

-- ---- what it read

-- nothing yet
pub takes_none : (a : List ℕ) (r : ℕ) (l : Option (List ℕ)) → Takes a a r r l l []
takes_none a r l = record { came = []; consumed = Consumes-nil l; joined = append-nil a; counted = omega arith }

module _ {a b : List ℕ} {r s : ℕ} {l m : Option (List ℕ)} (it : Takes a b r s l m []) where
  came_size : length b ≡ length a + length it.came
  came_size = sym (ap length it.joined) ∙ length-append a it.came

  -- no less is ahead
  pub no_less : length a ≤ length b
  no_less = omega (arith, came_size)

  -- where no more was read, the same is
  pub came_none : s ≡ r → b ≡ a
  came_none same =
      let counted = it.counted in
      sym it.joined ∙ ap (λ u. a ++ u) (nil_from_length it.came (omega (arith, same, counted))) ∙ append-nil a

  -- where more is ahead, less is left to the limit
  pub falls : length a < length b → r ≤ 4_294_967_296 → 4_294_967_297 - s < 4_294_967_297 - r
  falls more short = let counted = it.counted in omega (arith, counted, came_size, more, short)

  joined : {c : List ℕ} {t : ℕ} {n : Option (List ℕ)} (then : Takes b c s t m n []) → c ≡ (a ++ it.came) ++ then.came
  joined then = sym then.joined ∙ ap (λ u. u ++ then.came) (sym it.joined)

  -- a block came behind what did not suffice
  pub block_behind : {c : List ℕ} {t : ℕ} {n : Option (List ℕ)} {is_short : List ℕ → Type 0} → Takes b c s t m n [] → is_short b → length c ≤ length b + 65_536 → ReadsWhile is_short a c
  block_behind {c} {t} {n} {is_short} then short block = λ longer. record {
    before = it.came;
    last = then.came;
    joined = joined then;
    block = omega (arith, block, ap length then.joined, length-append b then.came);
    short = subst is_short (sym it.joined) short;
  }

  -- or the one byte beyond the limit
  byte_behind : {A : Type 0} {failed failed' : ℕ} {c : List ℕ} {t : ℕ} {n : Option (List ℕ)} {is_short : List ℕ → Type 0}
      → Takes b c s t m n [] → is_short b → s ≡ most_transcript_bytes → ReadsWithin {A = A} (Err fault.TooLong) t failed failed' → IsLastByte is_short a c
  byte_behind {A} {failed} {failed'} {c} {t} {n} {is_short} then short full reads = record {
    before = it.came;
    last = then.came;
    joined = joined then;
    one =
        let counted = then.counted in
        let more : most_transcript_bytes < t = reads.reading in
        let most = reads.most in
        omega (arith, counted, full, more, most);
    short = subst is_short (sym it.joined) short;
  }

-- where a fault stops it, what is ahead does not suffice still
pub stops_behind : {A : Type 0} {a : List ℕ} {r : ℕ} {l m n : Option (List ℕ)} {failed failed' : ℕ} (is_short : List ℕ → Type 0) (now new : Ahead) (told : SourceFault)
    → Takes a now.bytes r now.read l m [] → Takes now.bytes new.bytes now.read new.read m n [] → is_short now.bytes
    → IsStopped now new told → ReadsWithin {A = A} (Err told) new.read failed failed' → StopsShort is_short a new.bytes told
stops_behind is_short now new fault.TooLong it then short full reads = byte_behind it then short full reads
stops_behind is_short now new fault.Read it then short same reads = subst (λ (u : Ahead). is_short u.bytes) (sym same) short
stops_behind is_short now new fault.OutOfMemory it then short same reads = subst (λ (u : Ahead). is_short u.bytes) (sym same) short
