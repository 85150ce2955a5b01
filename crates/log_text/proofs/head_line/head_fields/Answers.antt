-- Fewer fields than seven are no head, nor are more.
use Rattle.std.proofs.Common.{◌≡◌, ℕ, ◌<◌, ◌≤◌, ◌+◌, ◌==◌, List, [], ◌∷◌, length, Err, refl, sym, ap, ◌∙◌, arith}
use Rattle.std.proofs.lemmas.List.Splits.{length-slice_split}
use Rattle.metering_model.specs.BatchReading.{fields_in}
use Rattle.batch_store.proofs.CutTexts.{at_some}
use Rattle.log_text.specs.LogText.{BadHead, head_in}
use Rattle.log_text.proofs.head_line.head_fields.Goals as goal

too_few : (fs : List (List ℕ)) → length fs ≤ 6 → head_in fs ≡ Err BadHead
too_few [] few = refl
too_few (v ∷ []) few = refl
too_few (v ∷ g ∷ []) few = refl
too_few (v ∷ g ∷ w ∷ []) few = refl
too_few (v ∷ g ∷ w ∷ n ∷ []) few = refl
too_few (v ∷ g ∷ w ∷ n ∷ a ∷ []) few = refl
too_few (v ∷ g ∷ w ∷ n ∷ a ∷ b ∷ []) few = refl
too_few (v ∷ g ∷ w ∷ n ∷ a ∷ b ∷ c ∷ more) few = absurd (omega (arith, few))

too_many : (v g w n a b c : List ℕ) (more : List (List ℕ)) → 0 < length more → head_in (v ∷ g ∷ w ∷ n ∷ a ∷ b ∷ c ∷ more) ≡ Err BadHead
too_many v g w n a b c [] some = absurd (omega arith)
too_many v g w n a b c (m ∷ ms) some = refl

-- two fields more
two_more : (fs gs : List (List ℕ)) (a b : List ℕ) (n : ℕ) → fs ≡ a ∷ b ∷ gs → length gs ≤ n → length fs ≤ n + 2
two_more fs gs a b n are few = omega (arith, few, ap length are)

pub returns-in_default : goal.returns-in_default
returns-in_default c = too_few (fields_in c.args.line.now) (omega (arith, c.in_default.ensures))

pub returns-in_default-read_pair : goal.returns-in_default-read_pair
returns-in_default-read_pair c = too_few (fields_in c.args.line.now) (omega (arith, two_more _ _ _ _ 2 c.in-Some.ensures c.in_default-read_pair.ensures))

pub returns-in_default-read_pair-2 : goal.returns-in_default-read_pair-2
returns-in_default-read_pair-2 c = too_few (fields_in c.args.line.now) (two_more _ _ _ _ 4 c.in-Some.ensures (two_more _ _ _ _ 2 c.in-Some-read_pair.ensures c.in_default-read_pair-2.ensures))

pub returns-then-is_some : goal.returns-then-is_some
returns-then-is_some c =
    let last = at_some c.split_at_bar.result _ _ c.split_at_bar.ensures (sym c.is_some.ensures ∙ c.if-is_some.true) in
    let more = length-slice_split (λ (x : ℕ). x == 124) last.0.1.now in
    let name = c.in-Some.name in
    let who = c.in-Some-read_pair.who in
    let nodes = c.in-Some-read_pair-2.nodes in
    let front : List (List ℕ) → List (List ℕ) = λ fs. name.one.now ∷ name.other.now ∷ fs in
    let whose : List (List ℕ) → List (List ℕ) = λ fs. front (who.one.now ∷ who.other.now ∷ fs) in
    ap head_in (c.in-Some.ensures ∙ ap front c.in-Some-read_pair.ensures ∙ ap whose c.in-Some-read_pair-2.ensures ∙ ap (λ fs. whose (nodes.one.now ∷ nodes.other.now ∷ fs)) last.1)
    ∙ too_many name.one.now name.other.now who.one.now who.other.now nodes.one.now nodes.other.now last.0.0.now (fields_in last.0.1.now) (omega (arith, more))
