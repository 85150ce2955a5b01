-- What a reader of a packet finds, from what the readers of its parts found.
use Rattle.std.proofs.Common.{◌≡◌, ℕ, Bool, true, false, cond, List, ◌∷◌, ◌++◌, take, drop, codes, Option, Some, None, Result, Ok, Err, IfErr, MatchResult, refl, sym, ap, ◌∙◌, subst}
use Rattle.std.proofs.lemmas.List.{take-append-drop}
use Rattle.std.specs.Prelude.{◌||◌}
use Rattle.std.specs.Bool.{IsTrue}
use Rattle.std.specs.Option.{ok_or, option_map}
use Rattle.metering_model.specs.BatchReading.{fields_in, is_same}
use Rattle.metering_model.specs.World.{Packet}
use Rattle.packet_text.specs.PacketText.{accept_in, accepted_in, decided_in, is_stored_word, line_packet_in, prepare_in, promise_in}
use Rattle.packet_text.specs.Inner.Unread.{IfNoMemory, IfNoPacket}
use Rattle.packet_text.specs.declared.reading.Unread.{Unread}
use Rattle.packet_text.specs.declared.reading.Unread.TheVariants.{NoPacket, NoMemory}

-- ---- what a result says

-- what is read, as it is viewed
abbrev pub Says : {A : Type 0} → (A → Packet) → Result A Unread → Option Packet → Type 0
Says view r o = MatchResult r (λ p. o ≡ Some (view p)) (λ why. IfNoPacket why (o ≡ None))

-- is said of what is the same
pub says_so : {A : Type 0} (view : A → Packet) (r : Result A Unread) (o q : Option Packet) → q ≡ o → Says view r o → Says view r q
says_so view r o q is it = subst (λ (x : Option Packet). Says view r x) (sym is) it

-- or it was an option
pub says_option : {A : Type 0} (view : A → Packet) (r : Result A Unread) (found : Option A) (o : Option Packet) → r ≡ ok_or found NoPacket → option_map view found ≡ o → Says view r o
says_option {A} view r found o is viewed = subst (λ (x : Result A Unread). Says view x o) (sym is) (by found viewed)
  where
    by : (f : Option A) → option_map view f ≡ o → Says view (ok_or f NoPacket) o
    by (Some p) e = sym e
    by None e = sym e

-- want of memory says what holds
pub want_so : {A : Type 0} (r : Result A Unread) {P : Type 0} → P → IfErr r (λ why. IfNoMemory why P)
want_so (Ok x) p = tt
want_so (Err NoPacket) p = tt
want_so (Err NoMemory) p = p

-- an option wants none
pub no_want : {A : Type 0} (r : Result A Unread) (found : Option A) (P : Type 0) → r ≡ ok_or found NoPacket → IfErr r (λ why. IfNoMemory why P)
no_want {A} r found P is = subst (λ (x : Result A Unread). IfErr x (λ why. IfNoMemory why P)) (sym is) (by found)
  where
    by : (f : Option A) → IfErr (ok_or f NoPacket) (λ why. IfNoMemory why P)
    by (Some p) = tt
    by None = tt

-- ---- by the word

on : {A : Type 0} (b : Bool) (x y : A) → b ≡ true → cond b x y ≡ x
on b x y is = ap (λ t. cond t x y) is

off : {A : Type 0} (b : Bool) (x y : A) → b ≡ false → cond b x y ≡ y
off b x y is = ap (λ t. cond t x y) is

or_left : (a b : Bool) → a ≡ true → (a || b) ≡ true
or_left a b is = ap (λ t. t || b) is

or_right : (a b : Bool) → b ≡ true → (a || b) ≡ true
or_right a b is = ap (λ t. a || t) is ∙ by a
  where
    by : (x : Bool) → (x || true) ≡ true
    by true = refl
    by false = refl

module _ (word : List ℕ) (fs : List (List ℕ)) where
  pub is_prepare : is_same word (codes "prepare") ≡ true → line_packet_in word fs ≡ prepare_in fs
  is_prepare is = on (is_same word (codes "prepare")) (prepare_in fs) _ is

  module _ (no1 : is_same word (codes "prepare") ≡ false) where
    pub is_promise : is_same word (codes "promise") ≡ true → line_packet_in word fs ≡ promise_in fs
    is_promise is = off (is_same word (codes "prepare")) (prepare_in fs) _ no1 ∙ on (is_same word (codes "promise")) (promise_in fs) _ is

    module _ (no2 : is_same word (codes "promise") ≡ false) where
      later2 : line_packet_in word fs
          ≡ cond (is_same word (codes "accept")) (accept_in fs) (cond (is_same word (codes "accepted")) (accepted_in fs) (cond (is_same word (codes "decided")) (decided_in fs) None))
      later2 = off (is_same word (codes "prepare")) (prepare_in fs) _ no1 ∙ off (is_same word (codes "promise")) (promise_in fs) _ no2

      pub is_accept : is_same word (codes "accept") ≡ true → line_packet_in word fs ≡ accept_in fs
      is_accept is = later2 ∙ on (is_same word (codes "accept")) (accept_in fs) _ is

      module _ (no3 : is_same word (codes "accept") ≡ false) where
        pub is_accepted : is_same word (codes "accepted") ≡ true → line_packet_in word fs ≡ accepted_in fs
        is_accepted is = later2 ∙ off (is_same word (codes "accept")) (accept_in fs) _ no3 ∙ on (is_same word (codes "accepted")) (accepted_in fs) _ is

        module _ (no4 : is_same word (codes "accepted") ≡ false) where
          later4 : line_packet_in word fs ≡ cond (is_same word (codes "decided")) (decided_in fs) None
          later4 = later2 ∙ off (is_same word (codes "accept")) (accept_in fs) _ no3 ∙ off (is_same word (codes "accepted")) (accepted_in fs) _ no4

          pub is_decided : is_same word (codes "decided") ≡ true → line_packet_in word fs ≡ decided_in fs
          is_decided is = later4 ∙ on (is_same word (codes "decided")) (decided_in fs) None is

          pub is_other : is_same word (codes "decided") ≡ false → line_packet_in word fs ≡ None
          is_other is = later4 ∙ off (is_same word (codes "decided")) (decided_in fs) None is

module _ (word : List ℕ) where
  abbrev b : Bool
  b = is_same word (codes "batch")

  abbrev p : Bool
  p = is_same word (codes "promise")

  abbrev a : Bool
  a = is_same word (codes "accept")

  abbrev d : Bool
  d = is_same word (codes "accepted")

  abbrev e : Bool
  e = is_same word (codes "decided")

  pub promise_stored : is_same word (codes "promise") ≡ true → IsTrue (is_stored_word word)
  promise_stored is = or_left (b || p || a || d) e (or_left (b || p || a) d (or_left (b || p) a (or_right b p is)))

  pub accept_stored : is_same word (codes "accept") ≡ true → IsTrue (is_stored_word word)
  accept_stored is = or_left (b || p || a || d) e (or_left (b || p || a) d (or_right (b || p) a is))

  pub accepted_stored : is_same word (codes "accepted") ≡ true → IsTrue (is_stored_word word)
  accepted_stored is = or_left (b || p || a || d) e (or_right (b || p || a) d is)

  pub decided_stored : is_same word (codes "decided") ≡ true → IsTrue (is_stored_word word)
  decided_stored is = or_right (b || p || a || d) e is

-- ---- the beginning of a line

pub behind_p1 : (line : List ℕ) → take 3 line ≡ codes "P1|" → fields_in line ≡ codes "P1" ∷ fields_in (drop 3 line)
behind_p1 line is = ap fields_in (sym (take-append-drop 3 line)) ∙ ap (λ t. fields_in (t ++ drop 3 line)) is
