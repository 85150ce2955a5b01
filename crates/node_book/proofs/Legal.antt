-- Legal histories: the empty one, and one more entry; and what is true of a reply whose copy takes memory.
use Rattle.std.proofs.Common.{◌≡◌, Bool, true, false, List, [], ◌∷◌, ◌++◌, map, refl, sym, ap, ◌∙◌, Result, Ok, Err, is_err}
use Rattle.std.specs.Prelude.{◌||◌, IfOk, OnErr}
use Rattle.std.proofs.lemmas.List.{map-append}
use Rattle.metering_model.specs.World.{World, Reply}
use Rattle.metering_model.specs.Step.{step, play}
use Rattle.metering_model.specs.History.{Entry, IsLegal}
use Rattle.metering_model.proofs.PlayLaws.{play-last, replies-last}
use Rattle.group_events.specs.Replies.{is_exported, is_kept_text}
use Rattle.node_book.proofs.Lists.{no_false}

pub legal_begun : (w : World) → IsLegal w [] w
legal_begun w = record { replies = refl; world = refl }

module _ (o w v : World) (history : List Entry) (x : Entry) (h : IsLegal o history w) (now : (x.reply, v) ≡ step w x.event) where
  events_more : map (λ (e : Entry). e.event) (history ++ x ∷ []) ≡ map (λ (e : Entry). e.event) history ++ x.event ∷ []
  events_more = map-append (λ (e : Entry). e.event) history (x ∷ [])

  replies_more : map (λ (e : Entry). e.reply) (history ++ x ∷ []) ≡ map (λ (e : Entry). e.reply) history ++ x.reply ∷ []
  replies_more = map-append (λ (e : Entry). e.reply) history (x ∷ [])

  led : step (play o (map (λ (e : Entry). e.event) history)).1 x.event ≡ (x.reply, v)
  led = ap (λ u. step u x.event) h.world ∙ sym now

  pub legal_more : IsLegal o (history ++ x ∷ []) v
  legal_more = record {
    replies =
        ap (λ es. (play o es).0) events_more
        ∙ (replies-last o (map (λ (e : Entry). e.event) history) x.event
        ∙ (ap (λ r. (play o (map (λ (e : Entry). e.event) history)).0 ++ r.0 ∷ []) led
        ∙ (ap (λ rs. rs ++ x.reply ∷ []) h.replies ∙ sym replies_more)));
    world =
        ap (λ es. (play o es).1) events_more
        ∙ (play-last o (map (λ (e : Entry). e.event) history) x.event ∙ ap (λ r. r.1) led);
  }

-- a reply whose copy takes memory is an export or a text
pub by_growth : (r : Reply) (P : Type 0) → (is_exported r || is_kept_text r) ≡ true → (is_exported r ≡ true → P) → (is_kept_text r ≡ true → P) → P
by_growth r P grows of_export of_text = by_test (is_exported r) grows of_export
  where
    by_test : (b : Bool) → (b || is_kept_text r) ≡ true → (b ≡ true → P) → P
    by_test true is one = one refl
    by_test false is one = of_text is

-- what holds whatever the result, holds at its error
pub on_err : {A E : Type 0} (r : Result A E) (P : Type 0) → P → OnErr r P
on_err (Ok x) P p = tt
on_err (Err why) P p = p

-- what is said of what comes with Ok, says nothing of an error
pub if_not_ok : {A E : Type 0} (r : Result A E) (P : A → Type 0) → is_err r ≡ true → IfOk r P
if_not_ok (Ok x) P is = no_false is
if_not_ok (Err why) P is = tt
