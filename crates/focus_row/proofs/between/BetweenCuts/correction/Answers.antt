use Rattle.std.proofs.Common.{◌≡◌, true, option_copied, sym, ap, subst, ◌∙◌, map, rules}
use Rattle.std.proofs.lemmas.Bool.{both_ways}
use Rattle.std.specs.Prelude.{IsTrue}
use Rattle.std.specs.Option.{is_some}
use Rattle.std.specs.List.{Contains}
use Rattle.metering_model.specs.Cut.{last_of}
use Rattle.metering_model.specs.ValueAtSequence.{value_at}
use Rattle.metering_model.specs.declared.ChargeClass.TheVariants.{Correction}
use Rattle.metering_model.specs.Row.{row}
use Rattle.metering_model.specs.Rows.{differ}
use Rattle.batch_view.specs.Lent.{model_reading}
use Rattle.journal_rules.specs.Stores.{AreAmended, position_of, rise}
use Rattle.charge_row.specs.FocusRows.{model_row}
use Rattle.charge_row.specs.Regions.{IsNamed}
use Rattle.focus_row.specs.Inner.Left.{Between, MayBeCharged}
use Rattle.focus_row.proofs.ReachLaws.{agent_of_from, agent_of_to, from_reaches, to_reaches, place_reaches, row_none, same_alike, other_apart}
use Rattle.focus_row.proofs.StopLaws.{no_row_unnamed, row_corrected}
use Rattle.focus_row.proofs.between.BetweenCuts.correction.Goals as goal

pub returns-then-not-is_named-clause-row : goal.returns-then-not-is_named-clause-row
returns-then-not-is_named-clause-row c =
    let s = c.args.self.now in
    let may : MayBeCharged s = subst MayBeCharged c.self.view_is c.self.invariant.0 in
    let ps = map position_of c.self.inside.amended.items in
    let am : AreAmended s.batches s.from s.to ps = subst (λ (b : Between). AreAmended b.batches b.from b.to ps) c.self.view_is c.self.invariant.2 in
    let place = position_of c.args.place in
    no_row_unnamed s may place (model_reading c.args.reading.now) c.requires.place.within (λ has.
    both_ways c.is_named.result c.if-not-is_named.true
    (c.is_named.ensures.1 (subst (λ xs. Contains (map position_of xs) place) (sym c.deref.ensures.value) ((am.each place).1 has))))

pub row-requires-clause-was : goal.row-requires-clause-was
row-requires-clause-was c priced = c.value-was.ensures.not_negative (model_reading c.args.reading.now) c.requires.there priced

pub row-requires-clause-value : goal.row-requires-clause-value
row-requires-clause-value c priced = c.value-now.ensures.not_negative (model_reading c.args.reading.now) c.requires.there priced

pub row-requires-clause-near : goal.row-requires-clause-near
row-requires-clause-near c =
    subst (λ (b : Between). IsNamed b.sheet (option_copied c.args.near.id) (option_copied c.args.near.name)) (sym c.self.view_is) c.requires.near

pub returns-clause-named : goal.returns-clause-named
returns-clause-named c =
    subst (λ (b : Between). IsNamed b.sheet (option_copied c.row.result.region_id) (option_copied c.row.result.region_name)) c.self.view_is c.row.ensures.named

pub returns-clause-row : goal.returns-clause-row
returns-clause-row c =
    let s = c.args.self.now in
    let place = position_of c.args.place in
    let reading = model_reading c.args.reading.now in
    let was : c.value-was.result ≡ value_at s.batches place (last_of s.from place.agent) =
    c.value-was.ensures.value ∙ ap (value_at s.batches place) (c.get.ensures.value ∙ ap (λ (b : Between). last_of b.from place.agent) c.self.view_is) in
    let now : c.value-now.result ≡ value_at s.batches place (last_of s.to place.agent) =
    c.value-now.ensures.value ∙ ap (value_at s.batches place) (c.get-2.ensures.value ∙ ap (λ (b : Between). last_of b.to place.agent) c.self.view_is) in
    let other : differ c.value-was.result c.value-now.result ≡ true = search (rules, other_apart) in
    let charged : model_row c.row.result ≡ row s.sheet s.issuer reading s.period Correction c.value-was.result c.value-now.result =
    subst (λ (b : Between). model_row c.row.result ≡ row b.sheet b.issuer reading b.period Correction c.value-was.result c.value-now.result) c.self.view_is
    (c.row.ensures.row c.self.inside.period c.self.invariant.1) in
    row_corrected s place reading _ _ _ c.requires.place.within was now other charged

pub is_named-requires : goal.is_named-requires
is_named-requires c = subst (λ xs. IsTrue (rise (map position_of xs))) (sym c.deref.ensures.value) c.self.invariant.2.in_order

pub get-requires-clause-from : goal.get-requires-clause-from
get-requires-clause-from c = c.requires.place.from

pub get-requires-clause-to : goal.get-requires-clause-to
get-requires-clause-to c = agent_of_from c.self.invariant.0 c.self.view_is c.requires.place.to

pub value-was-requires-clause-place : goal.value-was-requires-clause-place
value-was-requires-clause-place c = place_reaches c.self.invariant.0 c.self.view_is c.requires.place

pub value-was-requires-clause-there : goal.value-was-requires-clause-there
value-was-requires-clause-there c = ap is_some c.requires.there

pub value-was-requires-clause-upto : goal.value-was-requires-clause-upto
value-was-requires-clause-upto c = from_reaches c.self.invariant.0 c.self.view_is _ c.get.ensures.value

pub get-requires-2-clause-from : goal.get-requires-2-clause-from
get-requires-2-clause-from c = c.requires.place.from

pub get-requires-2-clause-to : goal.get-requires-2-clause-to
get-requires-2-clause-to c = agent_of_to c.self.invariant.0 c.self.view_is c.requires.place.to

pub value-now-requires-clause-place : goal.value-now-requires-clause-place
value-now-requires-clause-place c = place_reaches c.self.invariant.0 c.self.view_is c.requires.place

pub value-now-requires-clause-there : goal.value-now-requires-clause-there
value-now-requires-clause-there c = ap is_some c.requires.there

pub value-now-requires-clause-upto : goal.value-now-requires-clause-upto
value-now-requires-clause-upto c = to_reaches c.self.invariant.0 c.self.view_is _ c.get-2.ensures.value

pub returns-then-eq-clause-row : goal.returns-then-eq-clause-row
returns-then-eq-clause-row c =
    let s = c.args.self.now in
    let place = position_of c.args.place in
    let was : c.value-was.result ≡ value_at s.batches place (last_of s.from place.agent) =
    c.value-was.ensures.value ∙ ap (value_at s.batches place) (c.get.ensures.value ∙ ap (λ (b : Between). last_of b.from place.agent) c.self.view_is) in
    let now : c.value-now.result ≡ value_at s.batches place (last_of s.to place.agent) =
    c.value-now.ensures.value ∙ ap (value_at s.batches place) (c.get-2.ensures.value ∙ ap (λ (b : Between). last_of b.to place.agent) c.self.view_is) in
    row_none s place (model_reading c.args.reading.now) _ _ c.requires.place.within was now (same_alike c.value-was.result c.value-now.result (sym c.eq.ensures ∙ c.if-eq.true))
