-- The row before one of some rows, which for the first of them is another one.
use Rattle.std.proofs.Common.{◌≡◌, ℕ, zero, suc, ◌+◌, ◌-◌, ◌<◌, List, ◌∷◌, length, get_or, sym, ap, subst, ◌∙◌, arith}
use Rattle.std.proofs.lemmas.Bool.{false≢true}
use Rattle.std.specs.Option.{option_map}
use Rattle.metering_model.specs.Row.{Row}
use Rattle.std.specs.Prelude.{IfSome, IsTrue, Option, None, Some, false}
use Rattle.focus_row.specs.Rows.{FocusRow, model_row}
use Rattle.focus_csv.specs.Inner.Pieces.{AreOf, AreOfLast}
use Rattle.focus_csv.specs.declared.pieces.LinePieces.{LinePieces}

-- for the next one it is the row itself
pub itself_is : {X : Type 0} (first : X) (rows : List X) (i next : ℕ) → next ≡ i + 1 → get_or (first ∷ rows) next first ≡ get_or rows i first
itself_is first rows i zero e = absurd (omega (arith, e))
itself_is first rows i (suc k) e = ap (λ n. get_or rows n first) (omega (arith, e))

-- Where the pieces are held, they are of the row that is held, and so of the row before.
pub held_of_last : (row : Option FocusRow) (pieces : LinePieces) (before : FocusRow) → AreOfLast (option_map model_row row) pieces
    → IfSome row (λ r. before ≡ r) → IsTrue pieces.are_held → AreOf pieces (model_row before)
held_of_last None pieces before none same held = absurd (false≢true (sym none ∙ held))
held_of_last (Some r) pieces before of same held = subst (λ b. AreOf pieces (model_row b)) (sym same) (of held)

-- The pieces of the last of some rows are those of the row that is taken out of them.
pub last_taken : (pieces : LinePieces) (first : FocusRow) (lent rows : List FocusRow) (n : ℕ) (taken : Option FocusRow) → lent ≡ rows
    → n ≡ length lent → 0 < n → taken ≡ Some (get_or rows (n - 1) first)
    → (IsTrue pieces.are_held → AreOf pieces (model_row (get_or (first ∷ lent) (length lent) first))) → AreOfLast (option_map model_row taken) pieces
last_taken pieces first lent rows n taken same count some is held =
    let last : get_or (first ∷ lent) (length lent) first ≡ get_or rows (n - 1) first =
    itself_is first lent (n - 1) (length lent) (omega (arith, count, some)) ∙ ap (λ xs. get_or xs (n - 1) first) same in
    subst (λ o. AreOfLast (option_map model_row o) pieces) (sym is) (λ true. subst (λ r. AreOf pieces (model_row r)) last (held true))

-- Where none are held, whatever the last row is.
pub none_held : (row : Option Row) (pieces : LinePieces) → pieces.are_held ≡ false → AreOfLast row pieces
none_held None pieces none = none
none_held (Some r) pieces none = λ held. absurd (false≢true (sym none ∙ held))
