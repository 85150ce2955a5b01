-- Amendments as the entries tell them, one by one.
use Rattle.std.proofs.Common.{◌≡◌, ℕ, suc, ◌+◌, ◌<◌, List, [], ◌∷◌, ◌++◌, length, take, sym, ap, ◌∙◌, arith, get_or, Option, Some, None, All, IfSome}
use Rattle.std.specs.List.{filter_map, enumerate_from, cons_option}
use Rattle.std.proofs.lemmas.List.Elements.{filter_map-append, All-append, All-push}
use Rattle.std.proofs.lemmas.List.{length-take-le, take_more}
use Rattle.batch_view.specs.Inner.Amended.{amendment_found, amendments_kept, IsSmall}
use Rattle.batch_view.specs.declared.entries.Entry.{Entry}
use Rattle.batch_view.specs.declared.owned.Amendment.{Amendment}

enumerate_more : {A : Type 0} (n : ℕ) (xs : List A) (x : A) → enumerate_from n (xs ++ x ∷ []) ≡ enumerate_from n xs ++ (n + length xs, x) ∷ []
enumerate_more n [] x = ap (λ m. (m, x) ∷ []) (omega arith)
enumerate_more n (y ∷ xs) x =
    let same : n + 1 + length xs ≡ n + suc (length xs) = omega arith in
    ap (λ ps. (n, y) ∷ ps) (enumerate_more (n + 1) xs x ∙ ap (λ m. enumerate_from (n + 1) xs ++ (m, x) ∷ []) same)

kept_more : (es : List Entry) (e : Entry) → amendments_kept (es ++ e ∷ []) ≡ amendments_kept es ++ cons_option (amendment_found (length es) e.value e.found) []
kept_more es e =
    ap (filter_map (λ p. amendment_found p.0 p.1.value p.1.found)) (enumerate_more 0 es e)
    ∙ filter_map-append (λ p. amendment_found p.0 p.1.value p.1.found) (enumerate_from 0 es) ((0 + length es, e) ∷ [])
    ∙ ap (λ n. amendments_kept es ++ cons_option (amendment_found n e.value e.found) []) (omega arith)

-- one entry more of a list
pub kept_take : (es : List Entry) (i : ℕ) (e : Entry) → i < length es → e ≡ get_or es i e
    → amendments_kept (take (i + 1) es) ≡ amendments_kept (take i es) ++ cons_option (amendment_found i e.value e.found) []
kept_take es i e within is =
    ap amendments_kept (take_more es i e within ∙ ap (λ x. take i es ++ x ∷ []) (sym is))
    ∙ kept_more (take i es) e
    ∙ ap (λ n. amendments_kept (take i es) ++ cons_option (amendment_found n e.value e.found) []) (length-take-le i es (omega arith))

pub small_more : (xs : List Amendment) (o : Option Amendment) → All IsSmall xs → IfSome o IsSmall → All IsSmall (xs ++ cons_option o [])
small_more xs None all small = All-append IsSmall xs [] all (λ k d h. absurd (omega arith))
small_more xs (Some x) all small = All-push IsSmall xs x all small
