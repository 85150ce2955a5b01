use Rattle.std.proofs.Common.{◌≡◌, ℕ, ◌+◌, List, [], ◌∷◌, ◌++◌, map, take, arith, refl, sym, ap, subst, ◌∙◌}
use Rattle.std.proofs.lemmas.List.{append-nil, append_assoc, map-append, take_all, take_more}
use Rattle.sheet_changes.specs.FieldChanges.{ListsPrices, price_lines}
use Rattle.sheet_changes.specs.Inner.Listed.{day_of_pair}
use Rattle.sheet_changes.proofs.ListedDays.{lists_more}
use Rattle.sheet_changes.proofs.listings.put_prices.Goals as goal

pub loop-at-init : goal.loop-at-init
loop-at-init c = ([], refl, sym (append-nil c.args.text.now.items))

pub loop-at-preserved : goal.loop-at-preserved
loop-at-preserved c =
    let days = c.args.days.now in
    let at = c.loop-at.at-index in
    let day = c.at-item.result in
    let put = c.in-Ok.ensures in
    let so_far = c.loop-at.invariant in
    let lines = price_lines c.args.old.now c.args.new.now (day_of_pair day) put.0 in
    let more : map day_of_pair (take (at + 1) days) ≡ map day_of_pair (take at days) ++ day_of_pair day ∷ [] =
    ap (map day_of_pair) (take_more days at day (omega arith) ∙ ap (λ d. take at days ++ d ∷ []) (sym c.at-item.is)) ∙ map-append day_of_pair (take at days) (day ∷ []) in (
      so_far.0 ++ lines,
      subst (λ ds. ListsPrices c.args.old.now c.args.new.now ds (so_far.0 ++ lines)) (sym more) (lists_more c.args.old.now c.args.new.now (map day_of_pair (take at days)) (day_of_pair day) so_far.0 put.0 put.1 so_far.1),
      put.2 ∙ (ap (λ t. t ++ lines) so_far.2 ∙ append_assoc c.args.text.now.items so_far.0 lines),
    )

pub returns : goal.returns
returns c =
    subst (λ ds. (prices : List ℕ) × ListsPrices c.args.old.now c.args.new.now (map day_of_pair ds) prices × (c.loop-at.text.items ≡ c.args.text.now.items ++ prices))
    (take_all c.loop-at.at-index c.args.days.now c.loop-at-test.false) c.loop-at.invariant
