use Rattle.std.proofs.Common.{◌≡◌, ℕ, [], Option, Some, None, MatchOption, false, is_some, sym, ap, subst, ◌∙◌, rules}
use Rattle.std.proofs.lemmas.Bool.{eqb-true}
use Rattle.std.proofs.lemmas.List.{nil_from_length}
use Rattle.std.specs.Option.{option_copied, option_map}
use Rattle.metering_model.specs.Holding.{held}
use Rattle.metering_model.proofs.HoldingLaws.{held_place}
use Rattle.batch_view.specs.Batches.{batch_of}
use Rattle.batch_view.specs.Kept.{AreAmendmentsOf, value_given_in}
use Rattle.batch_view.proofs.GivenLaws.{own_alone}
use Rattle.batch_store.specs.Inner.Amenders.{NoneAmends, IsLastAmender}
use Rattle.batch_store.proofs.AmendedValues.{AreNone, none_yet, values_none}
use Rattle.batch_store.proofs.stores.Store.amended_values.Goals as goal

-- none was found
none_found : (o : Option ℕ) (A : Type 0) (B : ℕ → Type 0) → is_some o ≡ false → MatchOption o A B → A
none_found None A B e a = a
none_found (Some x) A B e b = absurd (cc)

pub returns-then-is_none : goal.returns-then-is_none
returns-then-is_none c =
    let h = c.args.self.now.batches in
    let b = batch_of c.unwrap-own.result.now in
    let at : held h c.args.agent c.args.seq ≡ Some b = sym c.get.ensures ∙ ap (λ o. option_map batch_of (option_copied o)) c.unwrap-own.ensures in
    let is : AreAmendmentsOf b [] = subst (AreAmendmentsOf b) (nil_from_length c.amendments.result.now (search (rules, eqb-true))) c.amendments.ensures in
    values_none h c.args.agent c.args.seq c.args.upto b c.agents-agents.ensures.stored.is_holding c.requires.upto at
    (none_found c.last_amender.result (NoneAmends (held h c.args.agent) c.args.seq c.args.seq c.args.upto) (IsLastAmender (held h c.args.agent) c.args.seq c.args.upto) c.if-is_none.ensures c.last_amender.ensures)
    (λ k r got. subst (λ s. value_given_in b s k ≡ Some r.value) (held_place h c.args.agent c.args.seq b at).1 (own_alone b k r is got))
    c.new.result.items (subst AreNone (sym c.new.ensures.items) none_yet)
