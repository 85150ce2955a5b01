use Rattle.std.proofs.Common.{◌<◌, ◌≤◌, ◌++◌, filter, length, not, refl, sym, ap, ◌∙◌, arith}
use Rattle.std.specs.List.{flat_map}
use Rattle.fault_lines.specs.UnknownKeys.{UnknownKey, is_key, told_unknown}
use Rattle.fault_lines.proofs.KeyWalks.{none_left, none_out, not_of, one_of, one_out, one_stays, same_item, told_out}
use Rattle.fault_lines.proofs.key_lines.put_those.Goals as goal

pub loop-index-init : goal.loop-index-init
loop-index-init c = record { told = refl; left = refl }

pub loop-index-preserved-in-Ok-1 : goal.loop-index-preserved-in-Ok-1
loop-index-preserved-in-Ok-1 c =
    let l = c.loop-index in
    let test = is_key c.args.table.now c.args.name.now in
    let key = c.index.result.now in
    let told_key = λ (k : UnknownKey). l.told.items ++ told_unknown c.args.line k in
    let all = c.args.told.now.items ++ flat_map (told_unknown c.args.line) (filter test c.args.keys.now.items) in
    let low : l.index < length l.keys.items = omega (arith, c.loop-index-test.true, c.len.ensures) in
    let passes = sym c.is_key.ensures ∙ c.if-is_key.true in
    let put = c.in-Ok.ensures ∙ ap told_key (same_item l.keys.items l.index c.remove-key.result key low c.remove-key.ensures.value c.index.ensures) in
    record {
      told = told_out (told_unknown c.args.line) test c.put_unknown.new.told.items all l.keys.items c.remove-key.new.self.items l.index low c.remove-key.ensures.items
          (one_of (told_unknown c.args.line) l.told.items c.put_unknown.new.told.items all l.keys.items l.index key low c.index.ensures test passes put l.invariant.told);
      left = one_out test l.keys.items (filter (λ k. not (test k)) c.args.keys.now.items) l.index key low c.index.ensures l.invariant.left c.remove-key.new.self.items c.remove-key.ensures.items passes;
    }

pub loop-index-preserved : goal.loop-index-preserved
loop-index-preserved c =
    let l = c.loop-index in
    let test = is_key c.args.table.now c.args.name.now in
    let key = c.index.result.now in
    let all = c.args.told.now.items ++ flat_map (told_unknown c.args.line) (filter test c.args.keys.now.items) in
    let low : l.index < length l.keys.items = omega (arith, c.loop-index-test.true, c.len.ensures) in
    let fails = sym c.is_key.ensures ∙ c.if-is_key.false in
    record {
      told = not_of (told_unknown c.args.line) l.told.items l.told.items all l.keys.items l.index key low c.index.ensures test fails refl l.invariant.told;
      left = one_stays test l.keys.items (filter (λ k. not (test k)) c.args.keys.now.items) l.index key low c.index.ensures l.invariant.left fails;
    }

pub returns : goal.returns
returns c =
    let l = c.loop-index in
    let test = is_key c.args.table.now c.args.name.now in
    let all = c.args.told.now.items ++ flat_map (told_unknown c.args.line) (filter test c.args.keys.now.items) in
    let past : length l.keys.items ≤ l.index = omega (arith, c.loop-index-test.false, c.len.ensures) in
    record {
      told = none_left (λ ks. flat_map (told_unknown c.args.line) (filter test ks)) l.told.items all l.keys.items l.index past refl l.invariant.told;
      left = none_out (filter (λ k. not (test k))) l.keys.items (filter (λ k. not (test k)) c.args.keys.now.items) l.index past refl l.invariant.left;
    }
