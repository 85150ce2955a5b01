-- One more start at its day, and none where one stands there.
use Rattle.std.proofs.Common.{◌≡◌, true, false, is_some, sym, ap, subst, ◌∙◌, rules}
use Rattle.std.specs.Map.{lookup}
use Rattle.std.specs.Ordering.{int_cmp}
use Rattle.std.specs.BTreeMap.{is_at, insert_entry}
use Rattle.price_sheet.specs.Inner.Days.{starts_in, rise, with_start}
use Rattle.price_sheet.proofs.DayLaws.{put_in, stays, still_rise}
use Rattle.price_sheet.proofs.price_in_force.Starts.add.Goals as goal

pub returns-then-contains_key : goal.returns-then-contains_key
returns-then-contains_key c =
    let es = c.self.inside.by_day.entries in
    let found : is_some (lookup (is_at (int_cmp c.args.start.day)) es) ≡ true = search rules in
    let rises : rise (starts_in es) ≡ true = search rules in
    subst (λ ss. ss ≡ with_start ss c.args.start) c.self.view_is (sym (stays es c.args.start rises found))

pub returns : goal.returns
returns c =
    let es = c.self.inside.by_day.entries in
    let new : is_some (lookup (is_at (int_cmp c.args.start.day)) es) ≡ false = search rules in
    let put : c.insert.new.self.entries ≡ insert_entry int_cmp es c.args.start.day c.args.start.place = search rules in
    ap starts_in put ∙ put_in es c.args.start new ∙ ap (λ ss. with_start ss c.args.start) c.self.view_is

pub invariant_of-self-2 : goal.invariant_of-self-2
invariant_of-self-2 c =
    let es = c.self.inside.by_day.entries in
    let new : is_some (lookup (is_at (int_cmp c.args.start.day)) es) ≡ false = search rules in
    let put : c.insert.new.self.entries ≡ insert_entry int_cmp es c.args.start.day c.args.start.place = search rules in
    let starts : starts_in c.insert.new.self.entries ≡ with_start (starts_in es) c.args.start = ap starts_in put ∙ put_in es c.args.start new in
    let rises : rise (starts_in es) ≡ true = search rules in
    let still : rise (starts_in c.insert.new.self.entries) ≡ true = ap rise starts ∙ still_rise (starts_in es) c.args.start rises in
    search rules
