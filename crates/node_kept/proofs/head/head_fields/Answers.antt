use Rattle.std.proofs.Common.{◌≡◌, ℕ, ◌<◌, ◌≤◌, ◌==◌, List, [], ◌∷◌, length, Err, refl, sym, ap, ◌∙◌, arith}
use Rattle.std.proofs.lemmas.List.Splits.{length-slice_split}
use Rattle.metering_model.specs.BatchReading.{fields_in}
use Rattle.metering_model.specs.declared.KeptCode.TheVariants.{Head}
use Rattle.metering_model.specs.KeptText.{kept_head_in}
use Rattle.batch_store.proofs.CutTexts.{at_some}
use Rattle.node_kept.proofs.head.head_fields.Goals as goal

too_many : (v a r l p b n : List ℕ) (more : List (List ℕ)) → 0 < length more → kept_head_in (v ∷ a ∷ r ∷ l ∷ p ∷ b ∷ n ∷ more) ≡ Err Head
too_many v a r l p b n [] some = absurd (omega arith)
too_many v a r l p b n (m ∷ ms) some = refl

too_few : (fields : List (List ℕ)) → length fields ≤ 6 → kept_head_in fields ≡ Err Head
too_few [] few = refl
too_few (v ∷ []) few = refl
too_few (v ∷ a ∷ []) few = refl
too_few (v ∷ a ∷ r ∷ []) few = refl
too_few (v ∷ a ∷ r ∷ l ∷ []) few = refl
too_few (v ∷ a ∷ r ∷ l ∷ p ∷ []) few = refl
too_few (v ∷ a ∷ r ∷ l ∷ p ∷ b ∷ []) few = refl
too_few (v ∷ a ∷ r ∷ l ∷ p ∷ b ∷ n ∷ more) few = absurd (omega arith)

joined : (line v a r rest l p b more : List ℕ) (end : List (List ℕ)) → fields_in line ≡ v ∷ a ∷ r ∷ fields_in rest → fields_in rest ≡ l ∷ p ∷ b ∷ fields_in more → fields_in more ≡ end
    → fields_in line ≡ v ∷ a ∷ r ∷ l ∷ p ∷ b ∷ end
joined line v a r rest l p b more end first next last = first ∙ ap (λ t. v ∷ a ∷ r ∷ t) (next ∙ ap (λ t. l ∷ p ∷ b ∷ t) last)

short : (line v a r rest : List ℕ) → fields_in line ≡ v ∷ a ∷ r ∷ fields_in rest → length (fields_in rest) ≤ 3 → kept_head_in (fields_in line) ≡ Err Head
short line v a r rest first few = too_few (fields_in line) (omega (arith, ap length first, few))

long : (line v a r rest l p b more n : List ℕ) (after : List (List ℕ)) → fields_in line ≡ v ∷ a ∷ r ∷ fields_in rest → fields_in rest ≡ l ∷ p ∷ b ∷ fields_in more → fields_in more ≡ n ∷ after
    → 0 < length after → kept_head_in (fields_in line) ≡ Err Head
long line v a r rest l p b more n after first next last some = ap kept_head_in (joined line v a r rest l p b more (n ∷ after) first next last) ∙ too_many v a r l p b n after some

pub returns-in_err-version : goal.returns-in_err-version
returns-in_err-version c = rw c.from_residual.ensures (too_few (fields_in c.args.line.now) (omega (arith, c.in_err-version.ensures)))

pub returns-in_err-learned : goal.returns-in_err-learned
returns-in_err-learned c =
    let f = c.in_ok-version in
    rw c.from_residual-in_err-learned.ensures (short c.args.line.now f.version.now f.agents.now f.round.now f.rest.now f.ensures c.in_err-learned.ensures)

pub returns-then-is_some : goal.returns-then-is_some
returns-then-is_some c =
    let f = c.in_ok-version in
    let g = c.in_ok-learned in
    let last = at_some c.split_at_bar.result _ _ c.split_at_bar.ensures (sym c.is_some.ensures ∙ c.if-is_some.true) in
    let more = length-slice_split (λ (x : ℕ). x == 124) last.0.1.now in
    long c.args.line.now f.version.now f.agents.now f.round.now f.rest.now g.learned.now g.promised.now g.ballot.now g.batches.now last.0.0.now (fields_in last.0.1.now) f.ensures g.ensures last.1
    (omega (arith, more))
