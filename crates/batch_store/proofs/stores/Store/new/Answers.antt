use Rattle.std.proofs.Common.{◌≡◌, ℕ, zero, suc, ◌+◌, [], ◌∷◌, ◌++◌, replicate, refl, ap, ◌∙◌, arith}
use Rattle.std.proofs.lemmas.Result.{err_from_is_err_and}
use Rattle.batch_store.specs.Inner.Shelves.{on_shelves}
use Rattle.batch_store.proofs.ShelvesLemmas.{no_batches}
use Rattle.batch_store.proofs.stores.Store.new.Goals as goal

pushed : {A : Type 0} (n : ℕ) (x : A) → replicate n x ++ x ∷ [] ≡ replicate (suc n) x
pushed zero x = refl
pushed (suc n) x = ap (λ xs. x ∷ xs) (pushed n x)

one_more : {A : Type 0} (n : ℕ) (x : A) → replicate n x ++ x ∷ [] ≡ replicate (n + 1) x
one_more n x =
    let next : suc n ≡ n + 1 = omega arith in
    pushed n x ∙ ap (λ k. replicate k x) next

pub loop-init : goal.loop-init
loop-init c = c.in_ok-shelves.ensures.items

pub loop-preserved : goal.loop-preserved
loop-preserved c =
    c.in_ok-push.ensures.items ∙ ap (λ shelf. c.loop.shelves.items ++ shelf ∷ []) c.new.ensures ∙ ap (λ shelves. shelves ++ [] ∷ []) c.loop.invariant ∙ one_more c.loop.counter []

pub returns-in_err-shelves : goal.returns-in_err-shelves
returns-in_err-shelves c =
    let p = err_from_is_err_and c.from_residual.result c.from_residual.ensures.1 in
    rw p.1 tt

pub returns-in_err-push : goal.returns-in_err-push
returns-in_err-push c =
    let p = err_from_is_err_and c.from_residual-in_err-push.result c.from_residual-in_err-push.ensures.1 in
    rw p.1 tt

pub invariant_of-result : goal.invariant_of-result
invariant_of-result c =
    let count : c.loop.counter ≡ c.args.agents = omega arith in
    (no_batches c.args.agents c.loop.shelves.items c.requires.from c.requires.to (c.loop.invariant ∙ ap (λ n. replicate n []) count)).0

pub returns : goal.returns
returns c =
    let count : c.loop.counter ≡ c.args.agents = omega arith in
    let none = no_batches c.args.agents c.loop.shelves.items c.requires.from c.requires.to (c.loop.invariant ∙ ap (λ n. replicate n []) count) in
    ap (λ n. record { agents = n; batches = on_shelves c.loop.shelves.items }) none.2 ∙ ap (λ h. record { agents = c.args.agents; batches = h }) none.1
