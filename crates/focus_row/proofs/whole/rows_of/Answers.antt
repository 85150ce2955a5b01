use Rattle.std.proofs.Common.{◌≡◌, ℕ, Some, Option, Result, Ok, Err, sym, ◌∙◌, rules}
use Rattle.metering_model.specs.declared.BrokenRule.{BrokenRule}
use Rattle.focus_row.specs.declared.whole.RowFault.{RowFault}
use Rattle.focus_row.specs.declared.whole.RowFault.TheVariants.{Missing, Broken, OutOfMemory}
use Rattle.journal_rules.proofs.RuleLaws.{rules_met}
use Rattle.focus_row.proofs.whole.rows_of.Goals as goal

-- two results are the same
abbrev the_result : (X : Type 0) → Result X RowFault → Result X RowFault → Type 0
the_result X x y = x ≡ y

-- one fault is no other
module _ {X : Type 0} where
  rows_no_fault : {x : X} {f : RowFault} → the_result X (Ok x) (Err f) → ⊥
  rows_no_fault e = cc

  missing_alike : {o : Option (ℕ × ℕ)} {a s b t : ℕ} → o ≡ Some (a, s) → the_result X (Err (Missing a s)) (Err (Missing b t)) → o ≡ Some (b, t)
  missing_alike is e = cc

  broken_alike : {o : Option BrokenRule} {r q : BrokenRule} → o ≡ Some r → the_result X (Err (Broken r)) (Err (Broken q)) → o ≡ Some q
  broken_alike is e = cc

  broken_not_missing : {r : BrokenRule} {a s : ℕ} → the_result X (Err (Broken r)) (Err (Missing a s)) → ⊥
  broken_not_missing e = cc

  broken_not_memory : {r : BrokenRule} → the_result X (Err (Broken r)) (Err OutOfMemory) → ⊥
  broken_not_memory e = cc

  missing_not_broken : {a s : ℕ} {r : BrokenRule} → the_result X (Err (Missing a s)) (Err (Broken r)) → ⊥
  missing_not_broken e = cc

  missing_not_memory : {a s : ℕ} → the_result X (Err (Missing a s)) (Err OutOfMemory) → ⊥
  missing_not_memory e = cc

  memory_not_broken : {r : BrokenRule} → the_result X (Err OutOfMemory) (Err (Broken r)) → ⊥
  memory_not_broken e = cc

pub rows_met-requires-clause-met : goal.rows_met-requires-clause-met
rows_met-requires-clause-met c =
    rules_met c.args.store.now.batches c.args.to.now c.agents-agents.ensures.stored.is_holding (sym c.first_missing.ensures ∙ c.in_default.is) c.args.sheet.now
    (sym c.first_broken_up_to.ensures ∙ c.in_default-first_broken_up_to.is)

pub returns-in-Ok-clause-whole : goal.returns-in-Ok-clause-whole
returns-in-Ok-clause-whole c = (
  sym c.first_missing.ensures ∙ c.in_default.is,
  rules_met c.args.store.now.batches c.args.to.now c.agents-agents.ensures.stored.is_holding (sym c.first_missing.ensures ∙ c.in_default.is) c.args.sheet.now
      (sym c.first_broken_up_to.ensures ∙ c.in_default-first_broken_up_to.is),
)

pub returns-in-Err-clause-memory : goal.returns-in-Err-clause-memory
returns-in-Err-clause-memory c is = (
  sym c.first_missing.ensures ∙ c.in_default.is,
  rules_met c.args.store.now.batches c.args.to.now c.agents-agents.ensures.stored.is_holding (sym c.first_missing.ensures ∙ c.in_default.is) c.args.sheet.now
      (sym c.first_broken_up_to.ensures ∙ c.in_default-first_broken_up_to.is),
)

pub returns-in-Err-clause-missing : goal.returns-in-Err-clause-missing
returns-in-Err-clause-missing c = search rules

pub first_missing-requires : goal.first_missing-requires
first_missing-requires c = c.requires.cuts.agents

pub returns-in-Some-clause-missing : goal.returns-in-Some-clause-missing
returns-in-Some-clause-missing c agent seq e = missing_alike (sym c.first_missing.ensures ∙ c.in-Some.is) e

pub returns-in-Some-clause-broken : goal.returns-in-Some-clause-broken
returns-in-Some-clause-broken c rule e = absurd (missing_not_broken e)

pub returns-in-Some-clause-memory : goal.returns-in-Some-clause-memory
returns-in-Some-clause-memory c e = absurd (missing_not_memory e)

pub first_broken_up_to-requires-clause-agents : goal.first_broken_up_to-requires-clause-agents
first_broken_up_to-requires-clause-agents c = c.requires.cuts.agents

pub first_broken_up_to-requires-clause-whole : goal.first_broken_up_to-requires-clause-whole
first_broken_up_to-requires-clause-whole c = sym c.first_missing.ensures ∙ c.in_default.is

pub returns-in-Some-first_broken_up_to-clause-missing : goal.returns-in-Some-first_broken_up_to-clause-missing
returns-in-Some-first_broken_up_to-clause-missing c agent seq e = absurd (broken_not_missing e)

pub returns-in-Some-first_broken_up_to-clause-broken : goal.returns-in-Some-first_broken_up_to-clause-broken
returns-in-Some-first_broken_up_to-clause-broken c rule e =
    (sym c.first_missing.ensures ∙ c.in_default.is, broken_alike (sym c.first_broken_up_to.ensures ∙ c.in-Some-first_broken_up_to.is) e)

pub returns-in-Some-first_broken_up_to-clause-memory : goal.returns-in-Some-first_broken_up_to-clause-memory
returns-in-Some-first_broken_up_to-clause-memory c e = absurd (broken_not_memory e)

pub rows_met-requires-clause-cuts : goal.rows_met-requires-clause-cuts
rows_met-requires-clause-cuts c = c.requires.cuts

pub rows_met-requires-clause-whole : goal.rows_met-requires-clause-whole
rows_met-requires-clause-whole c = sym c.first_missing.ensures ∙ c.in_default.is

pub returns-in-Ok-clause-rows : goal.returns-in-Ok-clause-rows
returns-in-Ok-clause-rows c = c.in-Ok.ensures

pub returns-in-Ok-clause-missing : goal.returns-in-Ok-clause-missing
returns-in-Ok-clause-missing c agent seq e = absurd (rows_no_fault e)

pub returns-in-Ok-clause-broken : goal.returns-in-Ok-clause-broken
returns-in-Ok-clause-broken c rule e = absurd (rows_no_fault e)

pub returns-in-Ok-clause-memory : goal.returns-in-Ok-clause-memory
returns-in-Ok-clause-memory c e = absurd (rows_no_fault e)

pub returns-in-Err-clause-broken : goal.returns-in-Err-clause-broken
returns-in-Err-clause-broken c rule e = absurd (memory_not_broken e)
