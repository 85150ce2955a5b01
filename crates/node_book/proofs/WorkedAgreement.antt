-- A group of one node and one agent on the whole way of a batch, whatever its text is: the receipts agree. With two of the
-- node's receipts swapped they do not.
use Rattle.std.proofs.Common.{◌≡◌, ℕ, zero, suc, ◌+◌, List, [], ◌∷◌, map, get_or, Some, None, refl, subst, ap, arith, Bool, true, false, cond, nat_lt, eqb-true}
use Rattle.std.specs.Prelude.{slice_get, if◌then◌else◌, ◌==◌}
use Rattle.std.proofs.lemmas.Bool.{ltb-true}
use Rattle.std.proofs.lemmas.Option.{same_Some}
use Rattle.metering_model.specs.declared.Worker.TheVariants.{Agent, Node}
use Rattle.metering_model.specs.Holding.{Holding}
use Rattle.metering_model.specs.World.{Event, Journal, Deliver, Start, Export, Keep, Revive, KeptOffer, Reply, Journaled, Delivered, Started, Exported, Snapshot, offer_of, opening}
use Rattle.metering_model.specs.History.{Entry}
use Rattle.metering_model.proofs.Samples.{sheet_0, issuer_1}
use Rattle.node_book.specs.Books.{Book, Told, Log, Plan}
use Rattle.node_book.specs.Agreement.{is_event_of_node, may_do, ExportsEach, IsLogAt, Agree}

-- what a node keeps is asked for by others, who also revive it: neither is an event of its own
not_kept_by_itself : (node : ℕ) → is_event_of_node node (Keep node) ≡ false
not_kept_by_itself node = refl

not_revived_by_itself : (node : ℕ) (offer : KeptOffer) → is_event_of_node node (Revive node offer) ≡ false
not_revived_by_itself node offer = refl

module _ (text : List ℕ) (batches : Holding) where
  abbrev snapshot : Snapshot
  snapshot = record { period = 0; from = 0 ∷ []; to = 1 ∷ []; batches = batches; sheet = sheet_0; issuer = issuer_1 }

  abbrev by_node : Event → Reply → Entry
  by_node event reply = record { who = Node 0; event = event; reply = reply }

  -- it is journaled, delivered, charged in the first period, and exported
  abbrev history : List Entry
  history =
      record { who = Agent 1; event = Journal (offer_of text); reply = Journaled 0 }
      ∷ by_node (Deliver 0 0) (Delivered None None)
      ∷ by_node (Start 0) (Started 1 1)
      ∷ by_node (Deliver 1 0) (Delivered (Some 2) None)
      ∷ by_node (Deliver 2 0) (Delivered (Some 3) None)
      ∷ by_node (Deliver 3 0) (Delivered (Some 4) None)
      ∷ by_node (Deliver 4 0) (Delivered None (Some 0))
      ∷ by_node (Export 0 0) (Exported snapshot)
      ∷ []

  abbrev book : Book
  book = record { voters = 1; observers = 0; agents = 1; sheet = sheet_0; issuer = issuer_1; history = history; world = opening 1 0 1 sheet_0 issuer_1 }

  abbrev plan : Plan
  plan = record { voters = 1; observers = 0; sheet = sheet_0; issuer = issuer_1; journals = (text ∷ []) ∷ []; periods = 1; turns = 2 }

  abbrev told : ℕ → Reply → Told
  told index reply = record { index = index; reply = reply }

  abbrev of_agent : Log
  of_agent = record { who = Agent 1; told = told 0 (Journaled 0) ∷ [] }

  -- what the node was told, of which two stand in some order
  abbrev of_node : Told → Told → Log
  of_node one other = record {
    who = Node 0;
    told = told 1 (Delivered None None) ∷ told 2 (Started 1 1) ∷ one ∷ other ∷ told 5 (Delivered (Some 4) None)
        ∷ told 6 (Delivered None (Some 0)) ∷ told 7 (Exported snapshot) ∷ [];
  }

  abbrev third : Told
  third = told 3 (Delivered (Some 2) None)

  abbrev fourth : Told
  fourth = told 4 (Delivered (Some 3) None)

  exports : ExportsEach 1 (of_node third fourth).told
  exports zero = refl
  exports (suc period) = by_tests (0 == suc period) (nat_lt (suc period) 1) refl refl
    where
      by_tests : (same below : Bool) → (0 == suc period) ≡ same → nat_lt (suc period) 1 ≡ below → 0 + cond same 1 0 ≡ (if below then 1 else 0)
      by_tests true below is less = let zero_is = eqb-true 0 (suc period) is in absurd (omega (arith, zero_is))
      by_tests false true is less = let lt = ltb-true (suc period) 1 less in absurd (omega (arith, lt))
      by_tests false false is less = refl

  agent_log : IsLogAt plan history 0 of_agent
  agent_log = record {
    who = refl;
    told = refl;
    offered = λ texts at. ap (map (λ t. Journal (offer_of t))) (same_Some (text ∷ []) texts at);
    exported = λ over. absurd (omega (arith, over));
  }

  node_log : IsLogAt plan history 1 (of_node third fourth)
  node_log = record { who = refl; told = refl; offered = λ texts at. absurd (cc at); exported = λ over. exports }

  each_log : (place : ℕ) (log : Log) → slice_get (of_agent ∷ of_node third fourth ∷ []) place ≡ Some log → IsLogAt plan history place log
  each_log zero log at = let same = same_Some of_agent log at in subst (IsLogAt plan history 0) same agent_log
  each_log (suc zero) log at = let same = same_Some (of_node third fourth) log at in subst (IsLogAt plan history 1) same node_log
  each_log (suc (suc place)) log at = absurd (cc at)

  may : (index : ℕ) (x e : Entry) → may_do plan x.who x.event ≡ true → Some x ≡ Some e → may_do plan e.who e.event ≡ true
  may index x e passes at = subst (λ y. may_do plan y.who y.event ≡ true) (same_Some x e at) passes

  each_entry : (index : ℕ) (e : Entry) → slice_get history index ≡ Some e → may_do plan e.who e.event ≡ true
  each_entry zero e at = may 0 _ e refl at
  each_entry (suc zero) e at = may 1 _ e refl at
  each_entry (suc (suc zero)) e at = may 2 _ e refl at
  each_entry (suc (suc (suc zero))) e at = may 3 _ e refl at
  each_entry (suc (suc (suc (suc zero)))) e at = may 4 _ e refl at
  each_entry (suc (suc (suc (suc (suc zero))))) e at = may 5 _ e refl at
  each_entry (suc (suc (suc (suc (suc (suc zero)))))) e at = may 6 _ e refl at
  each_entry (suc (suc (suc (suc (suc (suc (suc zero))))))) e at = may 7 _ e refl at
  each_entry (suc (suc (suc (suc (suc (suc (suc (suc index)))))))) e at = absurd (cc at)

  -- all receipts agree
  they_agree : Agree book plan (of_agent ∷ of_node third fourth ∷ [])
  they_agree = record { opened_for = refl; one_each = refl; each_log = each_log; each_entry = each_entry }

  -- with an observer its log has to be there, and in it its exports
  abbrev watched : Plan
  watched = record plan { observers = 1 }

  without_the_log_of_an_observer : (one other : Log) → Agree book watched (one ∷ other ∷ []) → ⊥
  without_the_log_of_an_observer one other agree = let count : 2 ≡ 3 = agree.one_each in omega (arith, count)

  without_its_export : (one other : Log) → Agree book watched (one ∷ other ∷ record { who = Node 1; told = [] } ∷ []) → ⊥
  without_its_export one other agree = let none : 0 ≡ 1 = (agree.each_log 2 (record { who = Node 1; told = [] }) refl).exported (omega arith) 0 in omega (arith, none)

  -- With two swapped they do not.
  swapped_they_do_not : Agree book plan (of_agent ∷ of_node fourth third ∷ []) → ⊥
  swapped_they_do_not agree =
      let own = (agree.each_log 1 (of_node fourth third) refl).told in
      let places : ◌≡◌ {A = ℕ} 3 4 = ap (λ ts. (get_or ts 2 third).index) own in
      absurd (omega (arith, places))
