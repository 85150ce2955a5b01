-- A line's bytes are plain or bars exactly where its fields are plain, and so are those of what is left behind a field.
use Rattle.std.proofs.Common.{◌≡◌, ℕ, ◌==◌, ◌||◌, Bool, true, false, not, List, [], ◌∷◌, Option, Some, None, IfNone, refl, sym, ap, subst, ◌∙◌, is_some, arith}
use Rattle.std.specs.List.{list_all, list_any, join_with_byte}
use Rattle.std.proofs.lemmas.Bool.{and_parts, and_from, eqb-true, eq-eqb, false_from_ne_true}
use Rattle.std.proofs.lemmas.Bool.Decides.{nat_tests}
use Rattle.metering_model.specs.Batch.{lacks}
use Rattle.metering_model.specs.BatchReading.{fields_in}
use Rattle.metering_model.specs.Dates.{stamp_in}
use Rattle.metering_model.proofs.Splitting.{list_all_weaker, join_cut, join_passes, join_passed, parts_lack}
use Rattle.byte_text.proofs.FirstPlace.{position_is}
use Rattle.record_view.specs.Parts.{LentText, parts_at}
use Rattle.record_view.specs.Plain.{is_plain, is_plain_byte, is_plain_line}
use Rattle.record_view.specs.Inner.Placed.{IsPlaced, texts_of, front_of, back_of}
use Rattle.record_view.proofs.PartLaws.{one_part, parts_cut}
use Rattle.record_view.proofs.NoneFound.{stamp_of_two}
use Rattle.record_view.proofs.TagLaws.{texts_of_parts}

-- ---- the line and its fields

abbrev may_stand : ℕ → Bool
may_stand c = is_plain_byte c || c == 124

plain_may : (c : ℕ) → is_plain_byte c ≡ true → may_stand c ≡ true
plain_may c h = grind (arith, nat_tests)

no_bar_plain : (t : List ℕ) → list_all may_stand t ≡ true → lacks 124 t ≡ true → is_plain t ≡ true
no_bar_plain [] h k = refl
no_bar_plain (c ∷ cs) h k =
    let may = and_parts (may_stand c) (list_all may_stand cs) h in
    let lack = and_parts (not (c == 124)) (lacks 124 cs) k in
    and_from _ _ (one c may.0 lack.0) (no_bar_plain cs may.1 lack.1)
  where
    one : (c : ℕ) → may_stand c ≡ true → not (c == 124) ≡ true → is_plain_byte c ≡ true
    one c h k = grind (arith, nat_tests)

all_plain : (ts : List (List ℕ)) → list_all (list_all may_stand) ts ≡ true → list_all (lacks 124) ts ≡ true → list_all is_plain ts ≡ true
all_plain [] h k = refl
all_plain (t ∷ ts) h k =
    let may = and_parts (list_all may_stand t) (list_all (list_all may_stand) ts) h in
    let lack = and_parts (lacks 124 t) (list_all (lacks 124) ts) k in
    and_from _ _ (no_bar_plain t may.0 lack.0) (all_plain ts may.1 lack.1)

pub fields_plain : (line : List ℕ) → is_plain_line line ≡ true → list_all is_plain (fields_in line) ≡ true
fields_plain line h = all_plain (fields_in line) (join_passed may_stand 124 (fields_in line) (ap (list_all may_stand) (join_cut 124 line) ∙ h)) (parts_lack 124 line)

pub line_plain : (line : List ℕ) → list_all is_plain (fields_in line) ≡ true → is_plain_line line ≡ true
line_plain line h =
    sym (ap (list_all may_stand) (join_cut 124 line))
    ∙ join_passes may_stand 124 (fields_in line) refl (list_all_weaker is_plain (list_all may_stand) (list_all_weaker is_plain_byte may_stand plain_may) (fields_in line) h)

-- ---- what is left behind a field

-- A line of plain bytes and bars, and its fields.
pub record IsLeft (line : List ℕ) (fields : List (List ℕ)) : Type 0 where
  pub plain : is_plain_line line ≡ true
  pub are : fields_in line ≡ fields

-- a line is cut behind a part
pub cut_line : (whole a b : LentText) → parts_at 124 whole ≡ a ∷ parts_at 124 b → fields_in whole.text ≡ a.text ∷ fields_in b.text
cut_line whole a b e = sym (texts_of_parts 124 whole) ∙ (ap texts_of e ∙ ap (λ ts. a.text ∷ ts) (texts_of_parts 124 b))

pub behind_part : (whole a b : LentText) (first : List ℕ) (others : List (List ℕ)) → IsLeft whole.text (first ∷ others) → parts_at 124 whole ≡ a ∷ parts_at 124 b → IsLeft b.text others
behind_part whole a b first others h e =
    let cut = cut_line whole a b e in
    let are = h.are in
    let plain : list_all is_plain (a.text ∷ fields_in b.text) ≡ true = ap (list_all is_plain) (sym cut) ∙ fields_plain whole.text h.plain in
    record {
      plain = line_plain b.text (and_parts (is_plain a.text) (list_all is_plain (fields_in b.text)) plain).1;
      are = cc;
    }

-- what is told of the first of two parts or more is told of the first of as many fields
pub of_first : (P : List ℕ → Type 0) (whole : LentText) (first second : List ℕ) (others : List (List ℕ)) → fields_in whole.text ≡ first ∷ second ∷ others
    → ((a b : LentText) (cs : List LentText) → parts_at 124 whole ≡ a ∷ b ∷ cs → P a.text) → P first
of_first P whole first second others are h = by_parts (parts_at 124 whole) refl (texts_of_parts 124 whole ∙ are)
  where
    by_parts : (ps : List LentText) → parts_at 124 whole ≡ ps → texts_of ps ≡ first ∷ second ∷ others → P first
    by_parts [] e same = absurd (cc)
    by_parts (a ∷ []) e same = absurd (cc)
    by_parts (a ∷ b ∷ cs) e same =
        let head : a.text ≡ first = cc in
        subst P head (h a b cs e)

-- where the first part of two or more is a stamp, it is the first twenty bytes
pub stamp_taken : (whole a b : LentText) → a ≡ front_of 20 whole → b ≡ back_of 20 whole → IsPlaced whole → (first second : LentText) (others : List LentText)
    → parts_at 124 whole ≡ first ∷ second ∷ others → is_some (stamp_in first.text) ≡ true → first.text ≡ a.text
stamp_taken whole a b front back placed first second others parts stamp =
    let at = stamp_of_two whole first second others placed parts stamp in
    let bar = position_is (λ c. c == 124) whole.text 20 at.within (λ k below. false_from_ne_true _ (λ e. at.before k below (eqb-true _ _ e))) (eq-eqb _ _ at.here) in
    let cut = parts_cut 124 20 whole a b front back bar in
    let same : first ≡ a = cc in
    ap (λ t. t.text) same

-- a stamp that was taken off, where the first field is one
pub behind_stamp : (whole a b : LentText) (first second : List ℕ) (others : List (List ℕ)) → IsLeft whole.text (first ∷ second ∷ others) → is_some (stamp_in first) ≡ true
    → ((x y : LentText) (zs : List LentText) → parts_at 124 whole ≡ x ∷ y ∷ zs → is_some (stamp_in x.text) ≡ true → x.text ≡ a.text)
    → (is_some (stamp_in a.text) ≡ true → parts_at 124 whole ≡ a ∷ parts_at 124 b)
    → (is_some (stamp_in a.text) ≡ true) × IsLeft b.text (second ∷ others)
behind_stamp whole a b first second others h stamp same split =
    let is = of_first (λ x. is_some (stamp_in x) ≡ true → x ≡ a.text) whole first second others h.are same stamp in
    let taken = ap (λ t. is_some (stamp_in t)) (sym is) ∙ stamp in
    (taken, behind_part whole a b first (second ∷ others) h (split taken))

-- a line of two fields or more has a bar
pub has_bar : (line first second : List ℕ) (others : List (List ℕ)) → IsLeft line (first ∷ second ∷ others) → (is_plain_line line ≡ true → list_any (λ c. c == 124) line ≡ false) → ⊥
has_bar line first second others h none =
    let one = one_part (λ c. c == 124) line (none h.plain) in
    let are = h.are in
    absurd (cc)

-- the last field is what is left
pub last_left : (line last : List ℕ) → IsLeft line (last ∷ []) → (is_plain line ≡ true) × (last ≡ line)
last_left line last h =
    let same = sym (ap (join_with_byte 124) h.are) ∙ join_cut 124 line in
    let plain : list_all is_plain (last ∷ []) ≡ true = ap (list_all is_plain) (sym h.are) ∙ fields_plain line h.plain in
    (ap is_plain (sym same) ∙ (and_parts (is_plain last) true plain).0, same)

pub not_there : {A : Type 0} (o : Option A) {P : Type 0} → (P → ⊥) → IfNone o (P → ⊥)
not_there (Some x) h = tt
not_there None h = h
