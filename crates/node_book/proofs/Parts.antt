-- A log at its place, and a book that agrees, put together of their parts and taken apart.
use Rattle.std.proofs.Common.{◌≡◌, ◌↔◌, ℕ, ◌+◌, ◌≤◌, true, List, length, map, arith, sym, ap, subst, ◌∙◌, Some}
use Rattle.std.specs.Prelude.{slice_get, Vec}
use Rattle.std.specs.declared.alloc.Global.{Global}
use Rattle.std.proofs.lemmas.List.{length-map}
use Rattle.std.proofs.lemmas.Option.{same_Some, slice_get_within}
use Rattle.metering_model.specs.World.{Event, Journal, offer_of, opening}
use Rattle.metering_model.specs.History.{Entry}
use Rattle.node_book.specs.Books.{Book, Log, Plan, node_total, opened}
use Rattle.node_book.specs.Agreement.{told_to, events_by, worker_at, may_do, ExportsEach, IsLogAt, Agree}

abbrev pub journal_of : List ℕ → Event
journal_of text = Journal (offer_of text)

abbrev pub texts_in : Vec (Vec ℕ Global) Global → List (List ℕ)
texts_in texts = map (λ text. text.items) texts.items

-- as many logs as workers, before and after their meaning is taken
pub count_of_logs : {A B : Type 0} (f : A → Log) (g : B → List (List ℕ)) (xs : List A) (ys : List B) (n : ℕ) → (length (map f xs) ≡ length (map g ys) + n) ↔ (length xs ≡ length ys + n)
count_of_logs f g xs ys n = (
  (λ h. omega (arith, h, length-map xs f, length-map ys g)),
  (λ h. omega (arith, h, length-map xs f, length-map ys g)),
)

module _ (plan : Plan) (history : List Entry) (place : ℕ) (log : Log) (who : log.who ≡ worker_at (length plan.journals) place) (told : told_to log.who history ≡ log.told) where
  pub log_of_agent : (mine : List (List ℕ)) → slice_get plan.journals place ≡ Some mine → (events_by log.who history ≡ map journal_of mine) ↔ IsLogAt plan history place log
  log_of_agent mine have = (
    (λ e. record {
      who = who;
      told = told;
      offered = λ texts at. e ∙ ap (map journal_of) (same_Some mine texts (sym have ∙ at));
      exported = λ ge. let lt = slice_get_within plan.journals place mine have in absurd (omega (arith, lt, ge));
    }),
    (λ h. h.offered mine have),
  )

  pub log_of_node : length plan.journals ≤ place → ExportsEach plan.periods log.told ↔ IsLogAt plan history place log
  log_of_node ge = (
    (λ each. record {
      who = who;
      told = told;
      offered = λ texts at. let lt = slice_get_within plan.journals place texts at in absurd (omega (arith, lt, ge));
      exported = λ over. each;
    }),
    (λ h. h.exported ge),
  )

module _ (book : Book) (plan : Plan) (logs : List Log) (history : List Entry) (same : history ≡ book.history) where
  abbrev pub AreRight : List Entry → Type 0
  AreRight h = (place : ℕ) (log : Log) → slice_get logs place ≡ Some log → IsLogAt plan h place log

  abbrev pub AreAllowed : List Entry → Type 0
  AreAllowed h = (index : ℕ) (e : Entry) → slice_get h index ≡ Some e → may_do plan e.who e.event ≡ true

  pub agree_of : opened book ≡ opening plan.voters plan.observers (length plan.journals) plan.sheet plan.issuer → length logs ≡ length plan.journals + node_total plan → AreRight history → AreAllowed history → Agree book plan logs
  agree_of group count right allowed = record {
    opened_for = group;
    one_each = count;
    each_log = subst AreRight same right;
    each_entry = subst AreAllowed same allowed;
  }

  pub right_of : Agree book plan logs → AreRight history
  right_of a = subst AreRight (sym same) a.each_log

  pub allowed_of : Agree book plan logs → AreAllowed history
  allowed_of a = subst AreAllowed (sym same) a.each_entry
