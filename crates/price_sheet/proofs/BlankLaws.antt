-- A text of nothing but blanks and comments tells no base month.
use Rattle.std.proofs.Common.{◌≡◌, ℕ, false, true, List, Some, refl, sym, subst, ◌∙◌}
use Rattle.std.specs.Prelude.{IsOk, is_ok}
use Rattle.toml.specs.Data.{Members, no_members}
use Rattle.toml.specs.Parse.{parse_document, lines}
use Rattle.toml.specs.Errors.{IsBlank}
use Rattle.sheet_text.specs.declared.names.Key.TheVariants as keys
use Rattle.sheet_text.specs.Keys.{base_under, text_under, value_under}

blank_is_empty : (text : List ℕ) → IsBlank text → parse_document text ≡ Some no_members
unfolding parse_document lines
blank_is_empty text blank = rw blank

no_base : is_ok (base_under keys.Base no_members) ≡ false
unfolding base_under text_under value_under
no_base = refl

pub not_blank : (text : List ℕ) (table : Members) → parse_document text ≡ Some table → IsOk (base_under keys.Base table) → ¬ IsBlank text
not_blank text table is read = λ blank.
    let one : Some table ≡ Some no_members = sym is ∙ blank_is_empty text blank in
    let same : table ≡ no_members = cc in
    let told : is_ok (base_under keys.Base no_members) ≡ true = subst (λ t. is_ok (base_under keys.Base t) ≡ true) same read in
    let none : false ≡ true = sym no_base ∙ told in
    absurd (cc)
