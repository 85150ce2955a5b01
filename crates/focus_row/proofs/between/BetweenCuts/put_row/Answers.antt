use Rattle.std.proofs.Common.{◌≡◌, Some, option_copied, refl, sym, ap, subst}
use Rattle.std.specs.Result.{OnOk}
use Rattle.batch_view.specs.Lent.{model_reading, record_of}
use Rattle.charge_row.specs.FocusRows.{model_row}
use Rattle.charge_row.specs.Regions.{IsNamed}
use Rattle.metering_model.specs.Cut.{last_of}
use Rattle.metering_model.specs.ValueAtSequence.{value_at}
use Rattle.metering_model.specs.declared.ChargeClass.TheVariants.{New}
use Rattle.metering_model.specs.Row.{row}
use Rattle.metering_model.specs.Rows.{row_of}
use Rattle.journal_rules.specs.Stores.{position_of}
use Rattle.focus_row.specs.Inner.Beginnings.{IsPutBehind}
use Rattle.focus_row.specs.Inner.Left.{Between, MayBeCharged, record_at}
use Rattle.focus_row.specs.Inner.Near.{AreNamed}
use Rattle.focus_row.proofs.ReachLaws.{agent_of_from, place_low, place_high, reading_there, nothing, nothing_fits, row_whole}
use Rattle.focus_row.proofs.RowBeginnings.{put_behind, put_none, put_if, kept_if}
use Rattle.focus_row.proofs.NewValueLaws.{worth, worth_at_to}
use Rattle.focus_row.proofs.between.BetweenCuts.put_row.Goals as goal

pub returns-in_default-clause-put : goal.returns-in_default-clause-put
returns-in_default-clause-put c =
    let s = c.args.self.now in
    put_none (ap (λ w. row_of s.sheet s.issuer s.batches s.period s.from s.to (position_of c.args.place) (record_of w)) (sym c.in_default.is)) c.requires.near

pub get-requires-clause-from : goal.get-requires-clause-from
get-requires-clause-from c = c.requires.place.from

pub get-requires-clause-to : goal.get-requires-clause-to
get-requires-clause-to c = agent_of_from c.self.invariant.0 c.self.view_is c.requires.place.to

pub put_correction-requires-clause-named : goal.put_correction-requires-clause-named
put_correction-requires-clause-named c = c.requires.near

pub put_correction-requires-clause-near : goal.put_correction-requires-clause-near
put_correction-requires-clause-near c =
    c.last_region-near.ensures.named c.args.self.now.sheet (subst (λ rows. AreNamed c.args.self.now.sheet rows) (sym c.deref.ensures.value) c.requires.near)

pub put_correction-requires-clause-place : goal.put_correction-requires-clause-place
put_correction-requires-clause-place c = place_low c.self.view_is c.requires.place c.get.ensures.value c.if-place-get.true

pub put_correction-requires-clause-there : goal.put_correction-requires-clause-there
put_correction-requires-clause-there c =
    let place = position_of c.args.place in
    reading_there c.args.self.now.batches place (model_reading c.in-Reading.reading)
    (subst (λ w. record_at c.args.self.now.batches place ≡ Some (record_of w)) c.in-Reading.is c.requires.there)

pub returns-then-place-get-clause-put : goal.returns-then-place-get-clause-put
returns-then-place-get-clause-put c =
    let s = c.args.self.now in
    subst (λ w. OnOk c.put_correction.result (IsPutBehind s.sheet (row_of s.sheet s.issuer s.batches s.period s.from s.to (position_of c.args.place) (record_of w))
    c.args.rows.now.items c.put_correction.new.rows.items)) (sym c.in-Reading.is) c.put_correction.ensures.put

pub returns-then-place-get-clause-kept : goal.returns-then-place-get-clause-kept
returns-then-place-get-clause-kept c = c.put_correction.ensures.kept

pub row-requires-clause-was : goal.row-requires-clause-was
row-requires-clause-was c priced = nothing_fits (nothing c.new.ensures.within c.unwrap-nothing.ensures)

pub row-requires-clause-value : goal.row-requires-clause-value
row-requires-clause-value c priced =
    let s = c.args.self.now in
    let place = position_of c.args.place in
    let reading = model_reading c.in-Reading.reading in
    let there = reading_there s.batches place reading (subst (λ w. record_at s.batches place ≡ Some (record_of w)) c.in-Reading.is c.requires.there) in
    let high = place_high place c.self.view_is c.get.ensures.value c.if-place-get.false in
    let now : c.value_in-now.result ≡ value_at s.batches place (last_of s.to place.agent) =
    worth s.batches place reading _ c.args.values.now c.args.values.now c.value_in-now.result (c.requires.values high) refl c.value_in-now.ensures there in
    worth_at_to s (subst MayBeCharged c.self.view_is c.self.invariant.0) place reading c.value_in-now.result now there priced c.requires.place.within

pub row-requires-clause-near : goal.row-requires-clause-near
row-requires-clause-near c =
    subst (λ (b : Between). IsNamed b.sheet (option_copied c.last_region-near.result.id) (option_copied c.last_region-near.result.name)) (sym c.self.view_is)
    (c.last_region-near.ensures.named c.args.self.now.sheet (subst (λ rows. AreNamed c.args.self.now.sheet rows) (sym c.deref.ensures.value) c.requires.near))

pub returns-then-is_err-clause-kept : goal.returns-then-is_err-clause-kept
returns-then-is_err-clause-kept c = kept_if _ _ _ c.push.ensures.items c.is_err.ensures.negation c.if-is_err.true

pub returns-clause-put : goal.returns-clause-put
returns-clause-put c =
    let s = c.args.self.now in
    let place = position_of c.args.place in
    let reading = model_reading c.in-Reading.reading in
    let there = reading_there s.batches place reading (subst (λ w. record_at s.batches place ≡ Some (record_of w)) c.in-Reading.is c.requires.there) in
    let high = place_high place c.self.view_is c.get.ensures.value c.if-place-get.false in
    let now : c.value_in-now.result ≡ value_at s.batches place (last_of s.to place.agent) =
    worth s.batches place reading _ c.args.values.now c.args.values.now c.value_in-now.result (c.requires.values high) refl c.value_in-now.ensures there in
    let charged : model_row c.row.result ≡ row s.sheet s.issuer reading s.period New c.unwrap-nothing.result c.value_in-now.result =
    subst (λ (b : Between). model_row c.row.result ≡ row b.sheet b.issuer reading b.period New c.unwrap-nothing.result c.value_in-now.result) c.self.view_is
    (c.row.ensures.row c.self.inside.period c.self.invariant.1) in
    let is = row_whole s place reading _ _ _ high (nothing c.new.ensures.within c.unwrap-nothing.ensures) now charged in
    put_behind c.row.result (put_if _ _ _ c.push.ensures.items c.is_err.ensures.negation c.if-is_err.false)
    (subst (λ w. Some (model_row c.row.result) ≡ row_of s.sheet s.issuer s.batches s.period s.from s.to place (record_of w)) (sym c.in-Reading.is) is) c.requires.near
    (subst (λ (b : Between). IsNamed b.sheet (option_copied c.row.result.region_id) (option_copied c.row.result.region_name)) c.self.view_is c.row.ensures.named)
