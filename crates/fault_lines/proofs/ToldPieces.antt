-- What is told is put together piece by piece.
use Rattle.std.proofs.Common.{◌≡◌, cond, List, ℕ, ◌++◌, Result, Ok, Err, OnOk, ap, ◌∙◌, append_assoc}
use Rattle.std.specs.Result.{is_ok}
use Rattle.std.proofs.lemmas.Result.{on_ok_weaker}

-- a place, what is told there, and an end
pub put_in_three : {A E : Type 0} (r : Result A E) (old one two three place words end : List ℕ) → one ≡ old ++ place → two ≡ one ++ words → OnOk r (three ≡ two ++ end)
    → OnOk r (three ≡ old ++ ((place ++ words) ++ end))
put_in_three r old one two three place words end p w e =
    on_ok_weaker r (λ is. is ∙ ap (λ t. t ++ end) (w ∙ ap (λ t. t ++ words) p) ∙ ap (λ t. t ++ end) (append_assoc old place words) ∙ append_assoc old (place ++ words) end) e

-- a place, and what stands behind it, which may fail
pub put_behind : {A E : Type 0} (r : Result A E) (old one two place word name end : List ℕ) → one ≡ old ++ place → OnOk r (two ≡ one ++ (word ++ (name ++ end)))
    → OnOk r (two ≡ old ++ ((place ++ (word ++ name)) ++ end))
put_behind (Ok x) old one two place word name end p r =
    let all : (old ++ place) ++ (word ++ (name ++ end)) ≡ old ++ ((place ++ (word ++ name)) ++ end) = simp append_assoc in
    r ∙ ap (λ t. t ++ (word ++ (name ++ end))) p ∙ all
put_behind (Err e) old one two place word name end p r = tt

-- a piece that a call of a Vec appends
pub put_one : {A E : Type 0} (r : Result A E) (old new piece same : List ℕ) → piece ≡ same → new ≡ cond (is_ok r) (old ++ piece) old → OnOk r (new ≡ old ++ same)
put_one (Ok x) old new piece same is put = put ∙ ap (λ t. old ++ t) is
put_one (Err e) old new piece same is put = tt

-- three pieces
pub put_three : {A E : Type 0} (r : Result A E) (old one two three word name end : List ℕ) → one ≡ old ++ word → two ≡ one ++ name → OnOk r (three ≡ two ++ end) → OnOk r (three ≡ old ++ (word ++ (name ++ end)))
put_three r old one two three word name end w n e =
    on_ok_weaker r (λ is. is ∙ ap (λ t. t ++ end) (n ∙ ap (λ t. t ++ name) w) ∙ append_assoc (old ++ word) name end ∙ append_assoc old word (name ++ end)) e
