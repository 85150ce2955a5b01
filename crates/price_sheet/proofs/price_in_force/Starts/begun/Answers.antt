-- The last of the starts until the day has begun last.
use Rattle.std.proofs.Common.{◌≡◌, true, Some, None, sym, subst, ◌∙◌, rules}
use Rattle.price_sheet.specs.declared.price_in_force.Start.{Start}
use Rattle.price_sheet.specs.Inner.Days.{starts_in, rise, begun}
use Rattle.price_sheet.proofs.DayLaws.{until, none_until, last_until}
use Rattle.price_sheet.proofs.price_in_force.Starts.begun.Goals as goal

pub returns-in-Some : goal.returns-in-Some
returns-in-Some c =
    let es = c.self.inside.by_day.entries in
    let start : Start = record { day = c.in-Some.day.now; place = c.in-Some.place.now } in
    let between : c.range.result ≡ until c.args.day es = search rules in
    let rises : rise (starts_in es) ≡ true = search rules in
    let last = last_until c.args.day es c.next_back.new.self (c.in-Some.day.now, c.in-Some.place.now) rises (sym between ∙ c.in-Some.ensures.steps) in
    sym (subst (λ ss. begun c.args.day ss ≡ Some start) c.self.view_is last)

pub returns-in-None : goal.returns-in-None
returns-in-None c =
    let es = c.self.inside.by_day.entries in
    let between : c.range.result ≡ until c.args.day es = search rules in
    sym (subst (λ ss. begun c.args.day ss ≡ None) c.self.view_is (none_until c.args.day es (sym between ∙ c.in-None.ensures.steps.0)))
