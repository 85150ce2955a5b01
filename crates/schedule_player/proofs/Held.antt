-- What is at hand is the text of each export of its period, since all of these are the same.
use Rattle.std.proofs.Common.{◌≡◌, ℕ, true, false, List, [], ◌∷◌, ◌++◌, Option, Some, None, refl, sym, ap, subst, ◌∙◌, arith}
use Rattle.std.specs.Prelude.{IfSome, Result, Ok, Err, OnOk}
use Rattle.std.specs.Option.{option_map}
use Rattle.std.proofs.lemmas.Bool.{eqb-true}
use Rattle.metering_model.specs.World.{World, Snapshot, Reply, Journaled, Delivered, Started, Restarted, Exported, KeptText, Refused}
use Rattle.metering_model.specs.Transcript.{reply_text}
use Rattle.group_core.specs.Headline.{AreExportsOf, ExportsStay, IsExportOf}
use Rattle.group_core.proofs.Worlds.{same_exports}
use Rattle.schedule_player.specs.Inner.Held.{FitsReply, IsHeldOf, ToldExport, exported_period, held_with, is_same_period, told, told_of}

-- a reply that is an export of the period that is at hand
pub record IsAtHand (held : Option ℕ) (reply : Reply) : Type 0 where
  pub snapshot : Snapshot
  pub is : reply ≡ Exported snapshot
  pub period : held ≡ Some snapshot.period

false_true : {X : Type 0} → false ≡ true → X
false_true e = absurd (cc)

pub at_hand : (held : Option ℕ) (reply : Reply) → is_same_period held (exported_period reply) ≡ true → IsAtHand held reply
at_hand None reply same = false_true same
at_hand (Some p) (Journaled packet) same = false_true same
at_hand (Some p) (Delivered sent learned) same = false_true same
at_hand (Some p) (Started ballot packet) same = false_true same
at_hand (Some p) Restarted same = false_true same
at_hand (Some p) (Exported s) same = record { snapshot = s; is = refl; period = ap Some (eqb-true p s.period same) }
at_hand (Some p) (KeptText text) same = false_true same
at_hand (Some p) (Refused why) same = false_true same

pub is_told : (held : Option ℕ) (line file : List ℕ) (reply : Reply) → FitsReply (told held line file) reply → is_same_period held (exported_period reply) ≡ true → line ++ file ≡ reply_text reply
is_told held line file reply fits same =
    let x = at_hand held reply same in
    (subst (λ h. IfSome (told h line file) (λ t. t.period ≡ x.snapshot.period → t.text ≡ reply_text reply)) x.period (fits x.snapshot x.is)) refl

-- what is told of the reply, by its own text
pub is_told_of : (held : Option ℕ) (line file : List ℕ) (reply : Reply) → held ≡ exported_period reply → line ++ file ≡ reply_text reply → told held line file ≡ told_of reply
is_told_of held line file reply same text = ap (λ h. told h line file) same ∙ ap (λ t. option_map (λ p. record { period = p; text = t }) (exported_period reply)) text

pub held_is : (held : Option ℕ) (reply : Reply) → is_same_period held (exported_period reply) ≡ true → held ≡ exported_period reply
held_is held reply same = let x = at_hand held reply same in x.period ∙ ap exported_period (sym x.is)

-- From one world to a later one, with a reply that is given there.
module _ (w v : World) (reply : Reply) (stay : ExportsStay w v) (all : AreExportsOf v (reply ∷ [])) where
  there : (s : Snapshot) → reply ≡ Exported s → IsExportOf v s
  there s is = all s (0, omega arith, is)

  pub fits : (held : Option ToldExport) → IsHeldOf w held → FitsReply held reply
  fits None h = λ s is. tt
  fits (Some x) h = λ s is same.
      let eq : h.0 ≡ s = same_exports v h.0 s (stay h.0 h.1) (there s is) (h.2 ∙ same) in
      sym h.3 ∙ (ap (λ t. reply_text (Exported t)) eq ∙ ap reply_text (sym is))

  pub held_still : (held : Option ToldExport) → IsHeldOf w held → IsHeldOf v held
  held_still None h = tt
  held_still (Some x) h = (h.0, stay h.0 h.1, h.2, h.3)

  pub held_after : (old new : Option ToldExport) → IsHeldOf w old → new ≡ held_with old reply → IsHeldOf v new
  held_after old new h e = subst (IsHeldOf v) (sym e) (by_reply reply refl)
    where
      by_reply : (r : Reply) → reply ≡ r → IsHeldOf v (held_with old r)
      by_reply (Journaled packet) is = held_still old h
      by_reply (Delivered sent learned) is = held_still old h
      by_reply (Started ballot packet) is = held_still old h
      by_reply Restarted is = held_still old h
      by_reply (Exported s) is = (s, there s is, refl, refl)
      by_reply (KeptText text) is = tt
      by_reply (Refused why) is = held_still old h

pub on_ok_then : {T E A B : Type 0} (r : Result T E) → (A → B) → OnOk r A → OnOk r B
on_ok_then (Ok x) f a = f a
on_ok_then (Err e) f a = tt
