-- Rows to which others were put.
use Rattle.std.proofs.Common.{◌≡◌, List, [], ◌∷◌, ◌++◌, map, Option, Some, sym, ap, ◌∙◌, append_assoc, append-nil, Bool, true, false, not, cond, None}
use Rattle.std.specs.List.{cons_option}
use Rattle.std.proofs.lemmas.List.{map-append}
use Rattle.std.proofs.lemmas.List.Elements.{All-push, All-same}
use Rattle.metering_model.specs.Sheet.{Sheet}
use Rattle.metering_model.specs.Row.{Row}
use Rattle.charge_row.specs.FocusRows.{model_row}
use Rattle.charge_row.specs.declared.columns.FocusRow.{FocusRow}
use Rattle.focus_row.specs.Inner.Beginnings.{BeginsWith, IsPutBehind}
use Rattle.focus_row.specs.Inner.Near.{AreNamed, HasItsName}

-- rows begin with themselves
pub begins_itself : (rows : List FocusRow) → BeginsWith rows rows
begins_itself rows = ([], sym (append-nil rows))

-- what begins with rows that begin with others
pub begins_longer : (rows longer begun : List FocusRow) → BeginsWith rows longer → BeginsWith longer begun → BeginsWith rows begun
begins_longer rows longer begun of before = (before.0 ++ of.0, of.1 ∙ ap (λ r. r ++ of.0) before.1 ∙ append_assoc begun before.0 of.0)

-- one row more, which is that of a charge
pub put_behind : {sheet : Sheet} {charge : Option Row} {begun rows : List FocusRow} (row : FocusRow) → rows ≡ begun ++ row ∷ [] → Some (model_row row) ≡ charge
    → AreNamed sheet begun → HasItsName sheet row → IsPutBehind sheet charge begun rows
put_behind {sheet} {charge} {begun} {rows} row pushed is named own = record {
  row =
      ap (map model_row) pushed
      ∙ map-append model_row begun (row ∷ [])
      ∙ ap (λ o. map model_row begun ++ cons_option o []) is;
  named = All-same (HasItsName sheet) _ _ pushed (All-push (HasItsName sheet) begun row named own);
  begins = (row ∷ [], pushed);
}

-- none more, where a charge has no row
pub put_none : {sheet : Sheet} {charge : Option Row} {begun : List FocusRow} → None ≡ charge → AreNamed sheet begun → IsPutBehind sheet charge begun begun
put_none {sheet} {charge} {begun} is named = record {
  row = sym (append-nil (map model_row begun)) ∙ ap (λ o. map model_row begun ++ cons_option o []) is;
  named = named;
  begins = begins_itself begun;
}

-- what a call that may fail put behind a list: where it gave no error, that, and else nothing
pub put_if : (ok : Bool) {err : Bool} (before longer : List FocusRow) {after : List FocusRow} → after ≡ cond ok longer before → ok ≡ not err → err ≡ false → after ≡ longer
put_if true before longer e n f = e
put_if false before longer e n f = absurd (cc)

pub kept_if : (ok : Bool) {err : Bool} (before longer : List FocusRow) {after : List FocusRow} → after ≡ cond ok longer before → ok ≡ not err → err ≡ true → after ≡ before
kept_if true before longer e n f = absurd (cc)
kept_if false before longer e n f = e
