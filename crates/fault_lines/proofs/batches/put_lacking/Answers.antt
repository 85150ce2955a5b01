use Rattle.std.proofs.Common.{◌≡◌, List, ℕ, Bool, ◌++◌, codes, cond, Option, Some, None, OnOk, sym, ap, subst, ◌∙◌}
use Rattle.std.specs.Option.{is_some, option_map}
use Rattle.metering_model.specs.Dates.{day_of}
use Rattle.metering_model.specs.PriceInForce.{price_in_force}
use Rattle.fault_lines.proofs.batches.put_lacking.Goals as goal

-- a price is there where its view is
is_there : {A B : Type 0} (f : A → B) (r : Option A) (q : Option B) (b : Bool) → option_map f r ≡ q → b ≡ is_some r → is_some q ≡ b
is_there f (Some x) q b viewed is = sym (ap is_some viewed) ∙ sym is
is_there f None q b viewed is = sym (ap is_some viewed) ∙ sym is

pub returns-then-is_some : goal.returns-then-is_some
returns-then-is_some c =
    let r = c.args.reading.now in
    let price = c.price.ensures ∙ ap (λ d. price_in_force c.args.sheet.now r.key.text.now d) c.day.ensures in
    let is = is_there _ c.price.result (price_in_force c.args.sheet.now r.key.text.now (day_of r.start)) c.is_some.result price c.is_some.ensures ∙ c.if-is_some.true in
    subst (λ (t : List ℕ). OnOk c.put_both.result (c.put_both.new.told.items ≡ c.args.told.now.items ++ t))
    (sym (ap (λ b. cond b (codes " commitment " ++ r.commitment.text.now) (codes " price " ++ r.key.text.now)) is)) c.put_both.ensures

pub returns-else-is_some : goal.returns-else-is_some
returns-else-is_some c =
    let r = c.args.reading.now in
    let price = c.price.ensures ∙ ap (λ d. price_in_force c.args.sheet.now r.key.text.now d) c.day.ensures in
    let is = is_there _ c.price.result (price_in_force c.args.sheet.now r.key.text.now (day_of r.start)) c.is_some.result price c.is_some.ensures ∙ c.if-is_some.false in
    subst (λ (t : List ℕ). OnOk c.put_both-else-is_some.result (c.put_both-else-is_some.new.told.items ≡ c.args.told.now.items ++ t))
    (sym (ap (λ b. cond b (codes " commitment " ++ r.commitment.text.now) (codes " price " ++ r.key.text.now)) is)) c.put_both-else-is_some.ensures
