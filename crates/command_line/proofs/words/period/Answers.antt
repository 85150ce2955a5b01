-- A number that is read is the period that the option spells, where it is one.
use Rattle.std.proofs.Common.{◌≡◌, ◌↔◌, ℕ, List, Option, Some, None, IfSome, IsSome, sym, refl, subst}
use Rattle.clap.specs.Words.{Row, found_of, one_text, rows_of}
use Rattle.metering_model.specs.Dates.{IsPeriod}
use Rattle.command_line.specs.CommandLine.{GivesNumber, GivesPeriod}
use Rattle.command_line.proofs.WordLaws.{one_number, period_read, some_is_not_none, spelled_number}
use Rattle.command_line.proofs.words.period.Goals as goal

given_of : (r : Option ℕ) (number : ℕ) (rows : List Row) (option : List ℕ) → IsSome r ↔ IsPeriod number → IfSome r (λ period. period ≡ number) → GivesNumber rows option number → IfSome r (GivesPeriod rows option)
given_of None number rows option valid value gives = tt
given_of (Some period) number rows option valid value gives = record { number = subst (GivesNumber rows option) (sym value) gives; within = subst IsPeriod (sym value) (valid.0 refl) }

not_given_of : (r : Option ℕ) (number : ℕ) → IsSome r ↔ IsPeriod number → r ≡ None → IsPeriod number → ⊥
not_given_of None number valid none within = let bad = valid.1 within in absurd (cc)
not_given_of (Some period) number valid none within = absurd (cc)

pub returns-clause-given : goal.returns-clause-given
returns-clause-given c =
    let found = found_of c.args.matches.now in
    let read = c.in_ok-number.ensures in
    given_of c.new.result c.in_ok-number.number (rows_of found) c.args.option.now c.new.ensures.valid c.new.ensures.value
    (spelled_number 16 c.args.option.now found (one_text found c.args.option.now) (Some c.in_ok-number.number) c.in_ok-number.number refl refl read.none read.value)

pub returns-clause-not_given : goal.returns-clause-not_given
returns-clause-not_given c = λ none period gives.
    let read = period_read (found_of c.args.matches.now) c.args.option.now (Some c.in_ok-number.number) period gives c.in_ok-number.ensures.value in
    let same = one_number c.in_ok-number.number period read in
    not_given_of c.new.result c.in_ok-number.number c.new.ensures.valid none (subst IsPeriod (sym same) gives.within)

pub returns-in_err-number-clause-not_given : goal.returns-in_err-number-clause-not_given
returns-in_err-number-clause-not_given c is period gives =
    some_is_not_none period (period_read (found_of c.args.matches.now) c.args.option.now None period gives c.in_err-number.ensures.value)
