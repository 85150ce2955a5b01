use Rattle.std.proofs.Common.{◌<◌, ◌^◌, Some, None, arith, refl}
use Rattle.clap.specs.Words.{found_of, one_text}
use Rattle.command_line.proofs.WordLaws.{no_number, one_number, some_is_not_none, spelled_number}
use Rattle.command_line.proofs.words.number.Goals as goal
use Rattle.command_line.proofs.words.number.Goals.{else-least-number-via-then-least-number+else-number-most, else-least-number-via-else-least-number}

pub returns-then-number-most-clause-given : goal.returns-then-number-most-clause-given
returns-then-number-most-clause-given c =
    let found = found_of c.args.matches.now in
    let read = c.in_ok-number.ensures in
    (c.if-least-number.true, c.if-number-most.true, spelled_number 8 c.args.option.now found (one_text found c.args.option.now) (Some c.in_ok-number.number) c.in_ok-number.number refl refl read.none read.value)

pub returns-in_err-number-clause-not_given : goal.returns-in_err-number-clause-not_given
returns-in_err-number-clause-not_given c is n from to gives =
    let small : n < 2 ^ 8 = omega (arith, to, c.ranges.most.fits) in
    let read = no_number 8 c.args.option.now (found_of c.args.matches.now) None n gives small c.in_err-number.ensures.value in
    some_is_not_none n read

pub returns-else-least-number-clause-not_given : goal.returns-else-least-number-clause-not_given
returns-else-least-number-clause-not_given c is n from to gives =
    let small : n < 2 ^ 8 = omega (arith, to, c.ranges.most.fits) in
    let read = no_number 8 c.args.option.now (found_of c.args.matches.now) (Some c.in_ok-number.number) n gives small c.in_ok-number.ensures.value in
    let same = one_number c.in_ok-number.number n read in
    elim c.else-least-number.branch [
      | else-least-number-via-then-least-number+else-number-most w ↦ absurd (omega (arith, same, to, w.if-number-most.false))
      | else-least-number-via-else-least-number w ↦ absurd (omega (arith, same, from, w.if-least-number.false))
    ]
