use Rattle.std.proofs.Common.{◌≡◌, ◌+◌, ◌-◌, sym, ap, take, length, ◌≤◌, ◌∙◌, arith}
use Rattle.byte_text.proofs.PastLines.{text_of_front}
use Rattle.metering_model.specs.BatchReading.{lines_in}
use Rattle.metering_model.specs.Schedule.{lines_text}
use Rattle.fault_lines.specs.TomlStops.{is_toml, stop_among}
use Rattle.fault_lines.proofs.TomlStopLaws.{one_left, stop_below, stop_here, stop_long, stop_none}
use Rattle.fault_lines.proofs.toml_stops.stop_among.Goals as goal

pub returns-in_default : goal.returns-in_default
returns-in_default c =
    let ls = (lines_in c.args.table.now).lines in
    let i = c.loop-index.index in
    sym (stop_none ls i (99 - i) c.in_default.ensures) ∙ c.loop-index.invariant

pub returns-then-not-branch : goal.returns-then-not-branch
returns-then-not-branch c =
    let ls = (lines_in c.args.table.now).lines in
    let i = c.loop-index.index in
    let there = c.in-Some.ensures in
    let front = ap (λ n. take n c.args.table.now) there.place ∙ text_of_front (i + 1) c.args.table.now in
    let short : length (lines_text (take (i + 1) ls)) ≤ 65_536 = omega (arith, there.place, c.if-length-gt-MOST_TRIED_BYTES.false) in
    let stops = ap is_toml (sym front) ∙ (sym c.in_ok-is_toml.ensures ∙ c.if-not-branch.true) in
    sym (stop_here ls i (99 - (i + 1)) there.enough short stops)
    ∙ ap (stop_among ls i) (sym (one_left i (omega (arith, c.loop-index-test.true))))
    ∙ c.loop-index.invariant

pub loop-index-preserved : goal.loop-index-preserved
loop-index-preserved c =
    let ls = (lines_in c.args.table.now).lines in
    let i = c.loop-index.index in
    let there = c.in-Some.ensures in
    let front = ap (λ n. take n c.args.table.now) there.place ∙ text_of_front (i + 1) c.args.table.now in
    let short : length (lines_text (take (i + 1) ls)) ≤ 65_536 = omega (arith, there.place, c.if-length-gt-MOST_TRIED_BYTES.false) in
    let is = ap is_toml (sym front) ∙ (sym c.in_ok-is_toml.ensures ∙ c.if-not-branch.false) in
    sym (stop_below ls i (99 - (i + 1)) there.enough short is)
    ∙ ap (stop_among ls i) (sym (one_left i (omega (arith, c.loop-index-test.true))))
    ∙ c.loop-index.invariant

pub returns-then-length-gt-MOST_TRIED_BYTES : goal.returns-then-length-gt-MOST_TRIED_BYTES
returns-then-length-gt-MOST_TRIED_BYTES c =
    let ls = (lines_in c.args.table.now).lines in
    let i = c.loop-index.index in
    sym (stop_long ls i (99 - i) (omega (arith, c.in-Some.ensures.place, c.if-length-gt-MOST_TRIED_BYTES.true))) ∙ c.loop-index.invariant

pub returns : goal.returns
unfolding stop_among
returns c =
    let ls = (lines_in c.args.table.now).lines in
    let i = c.loop-index.index in
    let all : 99 - i ≡ 0 = omega (arith, c.loop-index-test.false) in
    sym (ap (stop_among ls i) all) ∙ c.loop-index.invariant
