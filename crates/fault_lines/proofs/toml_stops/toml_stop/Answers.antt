use Rattle.std.proofs.Common.{◌≡◌, ◌+◌, ℕ, [], Option, None, IfOk, sym, ap, subst, ◌∙◌, arith}
use Rattle.metering_model.specs.BatchReading.{lines_in}
use Rattle.fault_lines.specs.TomlStops.{toml_stop}
use Rattle.fault_lines.proofs.TomlStopLaws.{all_left, moved, never_stops, opened, passed, stops_above, stops_last}
use Rattle.fault_lines.proofs.UnknownLaws.{is_none, lines_fit}
use Rattle.fault_lines.proofs.toml_stops.toml_stop.Goals.{then-opens_table+in_ok-is_toml+else-not-branch, else-opens_table, else-loop-index-test, then-loop-index-test+in_default}
use Rattle.fault_lines.proofs.toml_stops.toml_stop.Goals as goal

pub loop-index-init : goal.loop-index-init
loop-index-init c = all_left c.args.opening c.args.text.now (lines_fit c.args.text.now)

pub returns-then-not-branch : goal.returns-then-not-branch
returns-then-not-branch c =
    let l = c.loop-index in
    let stop = stops_above c.args.opening c.args.text.now l.table.now l.left.now l.first l.index l.invariant c.in-Some.line.now c.in-Some.behind.now c.in-Some.ensures
    (sym c.opens_table.ensures ∙ c.if-opens_table.true) (sym c.in_ok-is_toml.ensures ∙ c.if-not-branch.true) in
    subst (λ (o : Option ℕ). IfOk c.stop_in.result (λ found. found ≡ o)) stop c.stop_in.ensures

pub loop-index-preserved : goal.loop-index-preserved
loop-index-preserved c =
    let l = c.loop-index in
    let opening = c.args.opening in
    let text = c.args.text.now in
    let line = c.in-Some.line.now in
    let behind = c.in-Some.behind.now in
    elim c.if-opens_table.branch [
      | then-opens_table+in_ok-is_toml+else-not-branch w ↦
          moved opening text behind (l.index + 1) _ _ _ _ (ap (λ t. t.now) w.table-is) w.first-is
          (opened opening text l.table.now l.left.now l.first l.index l.invariant line behind c.in-Some.ensures
          (sym c.opens_table.ensures ∙ w.if-opens_table.true) (sym w.in_ok-is_toml.ensures ∙ w.if-not-branch.false))
      | else-opens_table w ↦
          moved opening text behind (l.index + 1) _ _ _ _ (ap (λ t. t.now) w.table-is) w.first-is
          (passed opening text l.table.now l.left.now l.first l.index l.invariant line behind c.in-Some.ensures
          (sym c.opens_table.ensures ∙ w.if-opens_table.false))
    ]

pub returns-then-branch : goal.returns-then-branch
returns-then-branch c =
    let l = c.loop-index in
    let is = sym c.in_ok-is_toml-2.ensures ∙ c.if-branch.true in
    let told : (lines_in l.left.now).lines ≡ [] → None ≡ toml_stop c.args.opening c.args.text.now
    = λ none. never_stops c.args.opening c.args.text.now l.table.now l.left.now l.first l.index l.invariant none is in
    elim c.loop-index-test.branch [
      | else-loop-index-test w ↦ told (is_none (lines_in l.left.now).lines (omega (arith, l.invariant.2, w.loop-index-test.false, c.line_count-index-end.ensures)))
      | then-loop-index-test+in_default w ↦ told w.in_default.ensures
    ]

pub returns : goal.returns
returns c =
    let l = c.loop-index in
    let no_toml = sym c.in_ok-is_toml-2.ensures ∙ c.if-branch.false in
    let told : (lines_in l.left.now).lines ≡ [] → IfOk c.stop_in-2.result (λ found. found ≡ toml_stop c.args.opening c.args.text.now)
    = λ none. subst (λ (o : Option ℕ). IfOk c.stop_in-2.result (λ found. found ≡ o))
    (stops_last c.args.opening c.args.text.now l.table.now l.left.now l.first l.index l.invariant none no_toml) c.stop_in-2.ensures in
    elim c.loop-index-test.branch [
      | else-loop-index-test w ↦ told (is_none (lines_in l.left.now).lines (omega (arith, l.invariant.2, w.loop-index-test.false, c.line_count-index-end.ensures)))
      | then-loop-index-test+in_default w ↦ told w.in_default.ensures
    ]
