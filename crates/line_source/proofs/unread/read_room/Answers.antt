-- What came stands behind the first bytes, which stay.
use Rattle.std.proofs.Common.{◌≡◌, ◌+◌, ◌-◌, ◌++◌, ◌≤◌, ◌∙◌, ℕ, List, length, drop, take, ap, arith, Option, Result, append_assoc, refl, subst, sym}
use Rattle.std.proofs.Math.Seq.{drop-append_seam, take-append_seam}
use Rattle.std.proofs.lemmas.List.{drop-take, length-drop, length-take-le}
use Rattle.line_source.specs.declared.faults.SourceFault.{SourceFault}
use Rattle.line_source.specs.Inner.Blocks.{ReadsInto}
use Rattle.line_source.proofs.unread.read_room.Goals as goal

-- a part of a text is as long as is asked for
room_size : (at size : ℕ) (bytes room : List ℕ) → at ≤ length bytes → length bytes ≡ size → length room ≡ length (take (length bytes - at) (drop at bytes)) → size ≡ at + length room
room_size at size bytes room within all is =
    let left = length-drop at bytes in
    omega (arith, within, all, is, left, length-take-le (length bytes - at) (drop at bytes) (omega (arith, left)))

-- behind the first bytes is the room
room_behind : (at size : ℕ) (bytes room more rest : List ℕ) → at ≤ length bytes → size ≡ at + length room → drop at (take size ((take at bytes ++ (room ++ more)) ++ rest)) ≡ room
room_behind at size bytes room more rest within is =
    let prefix = take at bytes in
    let all = (prefix ++ (room ++ more)) ++ rest in
    let behind = room ++ (more ++ rest) in
    let regrouped : all ≡ prefix ++ behind = append_assoc prefix (room ++ more) rest ∙ ap (λ t. prefix ++ t) (append_assoc room more rest) in
    ap (λ n. drop at (take n all)) is
    ∙ drop-take at (length room) all
    ∙ ap (take (length room)) (ap (drop at) regrouped ∙ ap (λ n. drop n (prefix ++ behind)) (sym (length-take-le at bytes within)) ∙ drop-append_seam prefix behind)
    ∙ take-append_seam room (more ++ rest)

-- so what is said of the room is said of what stands there
reads_behind : {r : Result ℕ SourceFault} (at size : ℕ) (bytes : List ℕ) {room : List ℕ} (more rest : List ℕ) {left left' : Option (List ℕ)} {failed failed' : ℕ} → at ≤ length bytes → size ≡ at + length room
    → ReadsInto r room left left' failed failed' → ReadsInto r (drop at (take size ((take at bytes ++ (room ++ more)) ++ rest))) left left' failed failed'
reads_behind {r} at size bytes {room} more rest {left} {left'} {failed} {failed'} within is it =
    subst (λ t. ReadsInto r t left left' failed failed') (sym (room_behind at size bytes room more rest within is)) it

pub returns-in-Ok-clause-reads : goal.returns-in-Ok-clause-reads
returns-in-Ok-clause-reads g c =
    let at = c.args.length in
    let now = c.deref_mut.result.now in
    let within : at ≤ length now = omega arith in
    reads_behind at c.args.bytes.now.len now _ _ within (room_size at _ now c.read.new.room within c.deref_mut.ensures.len c.read.auto.room)
    (record { bound = c.in-Ok.ensures.bound; consumed = c.in-Ok.ensures.consumed; fault = tt; count = c.in-Ok.ensures.count })

pub returns-in-Err-clause-reads : goal.returns-in-Err-clause-reads
returns-in-Err-clause-reads g c = record { bound = tt; consumed = c.in-Err.ensures.consumed; fault = refl; count = c.in-Err.ensures.count }
