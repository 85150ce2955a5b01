-- The regions that are listed are just those that the two sheets do not name alike, each once.
use Rattle.std.proofs.Common.{◌≡◌, ◌↔◌, ℕ, zero, suc, Bool, true, false, not, ◌||◌, List, [], ◌∷◌, ◌++◌, filter, length, Option, Some, None, option_map, refl, sym, ap, subst, ◌∙◌, inl, inr, ◌⊎◌, arith, Contains}
use Rattle.std.specs.Prelude.{All}
use Rattle.std.specs.Option.{is_some}
use Rattle.std.specs.List.{list_any}
use Rattle.std.proofs.lemmas.Bool.{and_parts, and_from, or_parts, not-true, true≢false, false≢true, cond-true, cond-false, cases_Bool}
use Rattle.std.proofs.lemmas.Option.{none-some}
use Rattle.std.proofs.lemmas.List.Elements.{All-nil, All-cons, All-head, All-tail, All-append, All-weaker, All-contains_itself, Contains-append_left, Contains-append_right}
use Rattle.metering_model.specs.BatchReading.{is_same}
use Rattle.metering_model.specs.Sheet.{Region, Sheet}
use Rattle.metering_model.specs.SheetRules.{IsSheet, are_apart, has_same_region}
use Rattle.metering_model.specs.PriceInForce.{region_named, region_with}
use Rattle.metering_model.proofs.FieldLaws.{same_read}
use Rattle.sheet_laws.specs.Longer.{NamesAlike}
use Rattle.sheet_changes.specs.Changes.{AreUnlikeRegions}
use Rattle.sheet_changes.specs.Regions.{ids_of, is_added, is_named_otherwise, is_same_name, unlike_regions}
use Rattle.sheet_changes.proofs.CommitmentLaws.{find_some, found, same_text}

-- ---- names

same_name : (x : Option (List ℕ)) → is_same_name x x ≡ true
same_name (Some t) = same_text t
same_name None = refl

name_read : (x y : Option (List ℕ)) → is_same_name x y ≡ true → x ≡ y
name_read (Some s) (Some t) e = ap Some (same_read s t e)
name_read (Some s) None e = absurd (false≢true e)
name_read None (Some t) e = absurd (false≢true e)
name_read None None e = refl

-- ---- lists

here : {X : Type 0} (xs : List X) (y : X) → Contains (y ∷ xs) y
here xs y = (0, omega arith, refl)

there : {X : Type 0} (x : X) (xs : List X) (y : X) → Contains xs y → Contains (x ∷ xs) y
there x xs y (k, less, is) = (suc k, omega arith, is)

none_there : {X : Type 0} (y : X) → Contains [] y → ⊥
none_there y (k, less, is) = absurd (omega arith)

first_or_behind : {X : Type 0} (x : X) (xs : List X) (y : X) → Contains (x ∷ xs) y → (x ≡ y) ⊎ Contains xs y
first_or_behind x xs y (zero, less, is) = inl is
first_or_behind x xs y (suc k, less, is) = inr (k, omega arith, is)

-- the ids of the regions that pass a test
module _ (test : Region → Bool) where
  passed : (x : Region) (xs : List Region) → test x ≡ true → ids_of (filter test (x ∷ xs)) ≡ x.id ∷ ids_of (filter test xs)
  passed x xs t = ap ids_of (cond-true (test x) (x ∷ filter test xs) (filter test xs) t)

  failed : (x : Region) (xs : List Region) → test x ≡ false → ids_of (filter test (x ∷ xs)) ≡ ids_of (filter test xs)
  failed x xs f = ap ids_of (cond-false (test x) (x ∷ filter test xs) (filter test xs) f)

  all_ids : (P : List ℕ → Type 0) (xs : List Region) → All (λ x. test x ≡ true → P x.id) xs → All P (ids_of (filter test xs))
  all_ids P [] all = All-nil P
  all_ids P (x ∷ xs) all = elim (cases_Bool (test x)) [
    | inl t ↦ subst (All P) (sym (passed x xs t)) (All-cons P x.id (ids_of (filter test xs)) (All-head (λ (y : Region). test y ≡ true → P y.id) x xs all t) (all_ids P xs (All-tail (λ (y : Region). test y ≡ true → P y.id) x xs all)))
    | inr f ↦ subst (All P) (sym (failed x xs f)) (all_ids P xs (All-tail (λ (y : Region). test y ≡ true → P y.id) x xs all))
  ]

  has_id : (xs : List Region) (y : Region) → Contains xs y → test y ≡ true → Contains (ids_of (filter test xs)) y.id
  has_id [] y has t = absurd (none_there y has)
  has_id (x ∷ xs) y has t = elim (first_or_behind x xs y has) [
    | inl first ↦ subst (λ ids. Contains ids y.id) (sym (passed x xs (ap test first ∙ t))) (subst (λ (z : Region). Contains (z.id ∷ ids_of (filter test xs)) y.id) (sym first) (here (ids_of (filter test xs)) y.id))
    | inr behind ↦ by_test (has_id xs y behind t)
  ]
    where
      by_test : Contains (ids_of (filter test xs)) y.id → Contains (ids_of (filter test (x ∷ xs))) y.id
      by_test has = elim (cases_Bool (test x)) [
        | inl passes ↦ subst (λ ids. Contains ids y.id) (sym (passed x xs passes)) (there x.id (ids_of (filter test xs)) y.id has)
        | inr fails ↦ subst (λ ids. Contains ids y.id) (sym (failed x xs fails)) has
      ]

  none_like : (x : Region) (xs : List Region) → list_any (has_same_region x) xs ≡ false → list_any (is_same x.id) (ids_of (filter test xs)) ≡ false
  none_like x [] e = refl
  none_like x (y ∷ ys) e =
      let parts = or_parts (has_same_region x y) (list_any (has_same_region x) ys) e in
      elim (cases_Bool (test y)) [
        | inl t ↦ ap (list_any (is_same x.id)) (passed y ys t) ∙ (ap (λ b. b || list_any (is_same x.id) (ids_of (filter test ys))) parts.0 ∙ none_like x ys parts.1)
        | inr f ↦ ap (list_any (is_same x.id)) (failed y ys f) ∙ none_like x ys parts.1
      ]

  ids_apart : (xs : List Region) → are_apart has_same_region xs ≡ true → are_apart is_same (ids_of (filter test xs)) ≡ true
  ids_apart [] e = refl
  ids_apart (x ∷ xs) e =
      let parts = and_parts (not (list_any (has_same_region x) xs)) (are_apart has_same_region xs) e in
      elim (cases_Bool (test x)) [
        | inl t ↦
            ap (are_apart is_same) (passed x xs t)
            ∙ and_from (not (list_any (is_same x.id) (ids_of (filter test xs)))) (are_apart is_same (ids_of (filter test xs))) (ap not (none_like x xs (not-true _ parts.0))) (ids_apart xs parts.1)
        | inr f ↦ ap (are_apart is_same) (failed x xs f) ∙ ids_apart xs parts.1
      ]

-- two lists of which none of the one is like one of the other
none_behind : (t : List ℕ) (ones others : List (List ℕ)) → list_any (is_same t) ones ≡ false → list_any (is_same t) others ≡ false → list_any (is_same t) (ones ++ others) ≡ false
none_behind t [] others e f = f
none_behind t (a ∷ ones) others e f =
    let parts = or_parts (is_same t a) (list_any (is_same t) ones) e in
    ap (λ b. b || list_any (is_same t) (ones ++ others)) parts.0 ∙ none_behind t ones others parts.1 f

both_apart : (ones others : List (List ℕ)) → are_apart is_same ones ≡ true → are_apart is_same others ≡ true → All (λ a. list_any (is_same a) others ≡ false) ones → are_apart is_same (ones ++ others) ≡ true
both_apart [] others e f all = f
both_apart (a ∷ ones) others e f all =
    let parts = and_parts (not (list_any (is_same a) ones)) (are_apart is_same ones) e in
    and_from (not (list_any (is_same a) (ones ++ others))) (are_apart is_same (ones ++ others))
    (ap not (none_behind a ones others (not-true _ parts.0) (All-head (λ c. list_any (is_same c) others ≡ false) a ones all)))
    (both_apart ones others parts.1 f (All-tail (λ c. list_any (is_same c) others ≡ false) a ones all))

-- ---- the regions of a sheet

-- what is looked up is there, under its id
pub record IsThere (sheet : Sheet) (id : List ℕ) : Type 0 where
  pub region : Region
  pub has : Contains sheet.regions region
  pub named : region.id ≡ id

is_there : (sheet : Sheet) (id name : List ℕ) → region_named sheet id ≡ Some name → IsThere sheet id
is_there sheet id name e = by_region (region_with sheet id) refl e
  where
    by_region : (o : Option Region) → region_with sheet id ≡ o → option_map (λ (x : Region). x.name) o ≡ Some name → IsThere sheet id
    by_region None is f = absurd (none-some name f)
    by_region (Some x) is f =
        let it = found (Contains sheet.regions) (λ y. is_same y.id id) sheet.regions x (All-contains_itself sheet.regions) is in
        record { region = x; has = it.0; named = same_read x.id id it.1 }

named_there : (sheet : Sheet) (x : Region) → Contains sheet.regions x → is_some (region_named sheet x.id) ≡ true
named_there sheet x has =
    let there = find_some (λ (y : Region). is_same y.id x.id) sheet.regions x has (same_text x.id) in
    ap (λ (o : Option Region). is_some (option_map (λ (y : Region). y.name) o)) there.1

not_none : {A : Type 0} (o : Option A) → o ≡ None → is_some o ≡ true → ⊥
not_none None e t = false≢true t
not_none (Some x) e t = none-some x (sym e)

is_none : {A : Type 0} (o : Option A) → not (is_some o) ≡ true → o ≡ None
is_none None e = refl
is_none (Some x) e = absurd (false≢true e)

module _ (old new : Sheet) where
  otherwise : (x : Region) → is_named_otherwise old new x ≡ true → ¬ NamesAlike old new x.id
  otherwise x t alike = true≢false (sym t ∙ ap not (ap (λ o. is_same_name o (region_named old x.id)) alike ∙ same_name (region_named old x.id)))

  added : (x : Region) → Contains new.regions x → is_added old x ≡ true → ¬ NamesAlike old new x.id
  added x has t alike = not_none (region_named new x.id) (alike ∙ is_none (region_named old x.id) t) (named_there new x has)

  renamed_ids : List (List ℕ)
  renamed_ids = ids_of (filter (is_named_otherwise old new) old.regions)

  pub unlike : All (λ id. ¬ NamesAlike old new id) (unlike_regions old new)
  unlike =
      All-append (λ id. ¬ NamesAlike old new id) (ids_of (filter (is_named_otherwise old new) old.regions)) (ids_of (filter (is_added old) new.regions))
      (all_ids (is_named_otherwise old new) (λ id. ¬ NamesAlike old new id) old.regions
      (All-weaker (Contains old.regions) (λ (x : Region). is_named_otherwise old new x ≡ true → ¬ NamesAlike old new x.id) (λ x has. otherwise x) old.regions (All-contains_itself old.regions)))
      (all_ids (is_added old) (λ id. ¬ NamesAlike old new id) new.regions
      (All-weaker (Contains new.regions) (λ (x : Region). is_added old x ≡ true → ¬ NamesAlike old new x.id) added new.regions (All-contains_itself new.regions)))

  pub each_listed : (id : List ℕ) → ¬ NamesAlike old new id → Contains (unlike_regions old new) id
  each_listed id other = by_old (region_named old id) refl
    where
      ones : List (List ℕ)
      ones = ids_of (filter (is_named_otherwise old new) old.regions)

      others : List (List ℕ)
      others = ids_of (filter (is_added old) new.regions)

      differ : is_same_name (region_named new id) (region_named old id) ≡ false
      differ = elim (cases_Bool (is_same_name (region_named new id) (region_named old id))) [
        | inl t ↦ absurd (other (name_read (region_named new id) (region_named old id) t))
        | inr f ↦ f
      ]

      by_new : region_named old id ≡ None → (o : Option (List ℕ)) → region_named new id ≡ o → Contains (unlike_regions old new) id
      by_new is None none = absurd (other (none ∙ sym is))
      by_new is (Some name) some =
          let it = is_there new id name some in
          Contains-append_right ones others id (subst (Contains others) it.named (has_id (is_added old) new.regions it.region it.has (ap (λ t. not (is_some (region_named old t))) it.named ∙ ap (λ o. not (is_some o)) is)))

      by_old : (o : Option (List ℕ)) → region_named old id ≡ o → Contains (unlike_regions old new) id
      by_old None is = by_new is (region_named new id) refl
      by_old (Some name) is =
          let it = is_there old id name is in
          Contains-append_left ones others id (subst (Contains ones) it.named (has_id (is_named_otherwise old new) old.regions it.region it.has (ap (λ t. not (is_same_name (region_named new t) (region_named old t))) it.named ∙ ap not differ)))

  pub once : IsSheet old → IsSheet new → are_apart is_same (unlike_regions old new) ≡ true
  once old_ok new_ok =
      both_apart (ids_of (filter (is_named_otherwise old new) old.regions)) (ids_of (filter (is_added old) new.regions))
      (ids_apart (is_named_otherwise old new) old.regions old_ok.one_region) (ids_apart (is_added old) new.regions new_ok.one_region)
      (all_ids (is_named_otherwise old new) (λ a. list_any (is_same a) (ids_of (filter (is_added old) new.regions)) ≡ false) old.regions
      (All-weaker (Contains old.regions) (λ (x : Region). is_named_otherwise old new x ≡ true → list_any (is_same x.id) (ids_of (filter (is_added old) new.regions)) ≡ false)
      (λ x has _. none_same x.id (named_there old x has) (ids_of (filter (is_added old) new.regions)) lacking) old.regions (All-contains_itself old.regions)))
    where
      IsLacking : List ℕ → Type 0
      IsLacking id = region_named old id ≡ None

      lacking : All (λ id. region_named old id ≡ None) (ids_of (filter (is_added old) new.regions))
      lacking =
          all_ids (is_added old) (λ id. region_named old id ≡ None) new.regions
          (All-weaker (Contains new.regions) (λ (x : Region). is_added old x ≡ true → region_named old x.id ≡ None) (λ x has t. is_none (region_named old x.id) t) new.regions (All-contains_itself new.regions))

      none_same : (a : List ℕ) → is_some (region_named old a) ≡ true → (others : List (List ℕ)) → All (λ id. region_named old id ≡ None) others → list_any (is_same a) others ≡ false
      none_same a has [] all = refl
      none_same a has (b ∷ others) all = elim (cases_Bool (is_same a b)) [
        | inl t ↦ absurd (not_none (region_named old a) (ap (region_named old) (same_read a b t) ∙ All-head (λ id. region_named old id ≡ None) b others all) has)
        | inr f ↦ ap (λ c. c || list_any (is_same a) others) f ∙ none_same a has others (All-tail (λ id. region_named old id ≡ None) b others all)
      ]

  pub are_unlike : IsSheet old → IsSheet new → AreUnlikeRegions old new (unlike_regions old new)
  are_unlike old_ok new_ok = record { unlike = unlike; all = each_listed; once = once old_ok new_ok }

  -- none is listed where all are named alike
  pub none_listed : (ids : List (List ℕ)) → AreUnlikeRegions old new ids → (ids ≡ []) ↔ ((id : List ℕ) → NamesAlike old new id)
  none_listed [] are = (λ _ id. alike id, λ _. refl)
    where
      alike : (id : List ℕ) → NamesAlike old new id
      alike id = elim (cases_Bool (is_same_name (region_named new id) (region_named old id))) [
        | inl t ↦ name_read (region_named new id) (region_named old id) t
        | inr f ↦ absurd (none_there id (are.all id (λ same. true≢false (sym (ap (λ o. is_same_name o (region_named old id)) same ∙ same_name (region_named old id)) ∙ f))))
      ]
  none_listed (x ∷ xs) are = (
    λ e. absurd (let long = ap length e in omega (arith, long)),
    λ alike. absurd (All-head (λ id. ¬ NamesAlike old new id) x xs are.unlike (alike x)),
  )
