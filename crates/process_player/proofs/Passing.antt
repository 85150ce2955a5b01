-- What was read and taken, one call after another.
use Rattle.std.proofs.Common.{◌≡◌, ℕ, List, [], ◌++◌, Option, sym, ap, ◌∙◌, append_assoc, append-nil, subst}
use Rattle.std.proofs.KnownBytes.{Consumes-trans}
use Rattle.line_source.specs.Reading.{Takes}
use Rattle.process_player.specs.Inner.Reading.{Passes}

pub passes_of : {a b : List ℕ} {r s : ℕ} {l m : Option (List ℕ)} {xs : List ℕ} → Takes a b r s l m xs → Passes a b l m xs
passes_of it = record { came = it.came; consumed = it.consumed; joined = it.joined }

-- counted anew before it
pub passes_marked : {mark a b : List ℕ} {r s : ℕ} {l m : Option (List ℕ)} {xs : List ℕ} → mark ≡ a → Takes mark b r s l m xs → Passes a b l m xs
passes_marked {b = b} {l = l} {m = m} {xs = xs} same it = subst (λ t. Passes t b l m xs) same (passes_of it)

module _ {a b : List ℕ} {l m : Option (List ℕ)} {xs : List ℕ} (it : Passes a b l m xs) where
  pub passes_on : {c : List ℕ} {n : Option (List ℕ)} {ys : List ℕ} → Passes b c m n ys → Passes a c l n (xs ++ ys)
  passes_on {c} {n} {ys} next = record {
    came = it.came ++ next.came;
    consumed = Consumes-trans l m n it.came next.came it.consumed next.consumed;
    joined =
        sym (append_assoc a it.came next.came) ∙ ap (λ u. u ++ next.came) it.joined ∙ append_assoc xs b next.came
        ∙ ap (λ u. xs ++ u) next.joined ∙ sym (append_assoc xs ys c);
  }

  -- more is read, and nothing taken
  pub passes_more : {c : List ℕ} {n : Option (List ℕ)} → Passes b c m n [] → Passes a c l n xs
  passes_more {c} {n} next = subst (Passes a c l n) (append-nil xs) (passes_on next)

  -- some of what is ahead is taken
  pub passes_front : (c ys : List ℕ) → b ≡ ys ++ c → Passes a c l m (xs ++ ys)
  passes_front c ys is = record {
    came = it.came;
    consumed = it.consumed;
    joined = it.joined ∙ ap (λ u. xs ++ u) is ∙ sym (append_assoc xs ys c);
  }
