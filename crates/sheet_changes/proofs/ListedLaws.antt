-- What is listed and what a likeness says agree.
use Rattle.std.proofs.Common.{◌≡◌, ◌↔◌, ℕ, ◌<◌, ◌≤◌, ◌^◌, true, List, [], ◌∷◌, ◌++◌, length, Option, Some, None, ℤ, pos, ◌<ℤ◌, ◌≤ℤ◌, refl, sym, ap, subst, ◌∙◌, inl, inr, arith, Contains, option_map, decimal, zero, suc, codes, slice_index_or}
use Rattle.std.specs.Prelude.{All, IsTrue}
use Rattle.std.specs.Option.{is_some}
use Rattle.std.proofs.lemmas.Bool.{cases_Bool, false≢true}
use Rattle.std.proofs.lemmas.Fmt.{decimal_is_IsNumeral}
use Rattle.std.proofs.lemmas.Int.{ints}
use Rattle.std.proofs.lemmas.List.{length-append}
use Rattle.std.proofs.lemmas.List.Elements.{All-contains, All-contains_itself, All-weaker}
use Rattle.std.proofs.lemmas.Option.{same_Some, none-some}
use Rattle.std.specs.Result.{result_ok}
use Rattle.std.specs.Str.Parse.{digits_value}
use Rattle.metering_model.specs.BatchReading.{is_same}
use Rattle.metering_model.specs.NumberText.{price_in, price_limit, spelling}
use Rattle.metering_model.specs.PriceInForce.{commitment_with, price_in_force}
use Rattle.metering_model.specs.declared.CommitmentCategory.{CommitmentCategory}
use Rattle.metering_model.specs.declared.CommitmentCategory.TheVariants.{Spend, Usage}
use Rattle.metering_model.specs.declared.ServiceCategory.{ServiceCategory}
use Rattle.metering_model.specs.declared.ServiceCategory.TheVariants.{Compute, Storage, Networking, Databases, Other}
use Rattle.metering_model.specs.Sheet.{Commitment, PriceRow, Sheet, service_category_text, commitment_category_text}
use Rattle.metering_model.specs.SheetRules.{IsSheet, IsPriceRow, IsCommitment, is_label}
use Rattle.metering_model.proofs.FieldLaws.{same_read}
use Rattle.metering_model.proofs.PriceLaws.{in_force_begun}
use Rattle.metering_model.proofs.PriceTexts.{price_back}
use Rattle.sheet_laws.specs.Longer.{GoesOnFrom, without_from}
use Rattle.sheet_text.specs.Keys.{commitment_category_in, service_category_in}
use Rattle.sheet_text.specs.Names.{key_name}
use Rattle.sheet_text.specs.declared.names.Key.{Key}
use Rattle.sheet_text.specs.declared.names.Key.TheVariants as keys
use Rattle.sheet_changes.specs.FieldChanges.{ListsNoneBefore, PriceDay, changed, changed_keys, commitment_keys, commitment_lines, commitment_text, part, price_day, price_days, price_keys, price_lines, price_text}
use Rattle.sheet_changes.specs.Inner.Compared.{Stays, StaysOn}
use Rattle.sheet_changes.proofs.CommitmentLaws.{find_some, found, same_text}
use Rattle.sheet_changes.proofs.FieldLines.{none_changed, one_changed}
use Rattle.sheet_changes.proofs.PriceDays.{stays_of, stays_on}
use Rattle.sheet_changes.proofs.SortedLists.{mapped_there}

-- ---- no line is nothing that differs

both_empty : (xs ys : List ℕ) → xs ++ ys ≡ [] → (xs ≡ []) × (ys ≡ [])
both_empty [] ys e = (refl, e)
both_empty (x ∷ xs) ys e = absurd (let long = ap length e in omega (arith, long))

never_empty : (xs : List ℕ) → xs ++ 10 ∷ [] ≡ [] → ⊥
never_empty xs e = let long = ap length e in omega (arith, long, length-append xs (10 ∷ []))

pub no_line : (named : List (List ℕ)) (old new : List ℕ) → changed named old new ≡ [] → old ≡ new
no_line named old new e = elim (cases_Bool (is_same old new)) [
  | inl t ↦ same_read old new t
  | inr f ↦ absurd (never_empty _ (sym (one_changed named old new (λ same. false≢true (sym f ∙ ap (is_same old) (sym same) ∙ same_text old))) ∙ e))
]

module _ {A : Type 0} (said : Key → A → List ℕ) (named : List (List ℕ)) (old new : Option A) where
  abbrev AreSame : Key → Type 0
  AreSame key = part (said key) old ≡ part (said key) new

  pub none_listed : (ks : List Key) → ((key : Key) → AreSame key) → changed_keys said named ks old new ≡ []
  none_listed [] same = refl
  none_listed (k ∷ ks) same =
      ap (λ t. t ++ changed_keys said named ks old new) (none_changed (named ++ key_name k ∷ []) (part (said k) old) (part (said k) new) (same k)) ∙ none_listed ks same

  pub all_same : (ks : List Key) → changed_keys said named ks old new ≡ [] → (key : Key) → Contains ks key → AreSame key
  all_same [] e key (k, less, is) = absurd (omega arith)
  all_same (x ∷ xs) e key (zero, less, is) = subst (λ k. part (said k) old ≡ part (said k) new) is (no_line (named ++ key_name x ∷ []) (part (said x) old) (part (said x) new) (both_empty _ (changed_keys said named xs old new) e).0)
  all_same (x ∷ xs) e key (suc k, less, is) = all_same xs (both_empty (changed (named ++ key_name x ∷ []) (part (said x) old) (part (said x) new)) _ e).1 key (k, omega arith, is)

-- ---- what texts tell apart

same_price : (a b : ℕ) → a < price_limit → b < price_limit → spelling 6 (pos a) ≡ spelling 6 (pos b) → a ≡ b
same_price a b small_a small_b e = same_Some a b (ap result_ok (sym (price_back a small_a) ∙ ap price_in e ∙ price_back b small_b))

same_number : (a b : ℕ) → a < 2 ^ 64 → b < 2 ^ 64 → decimal a ≡ decimal b → a ≡ b
same_number a b small_a small_b e = sym (decimal_is_IsNumeral a small_a).1 ∙ ap (digits_value 10) e ∙ (decimal_is_IsNumeral b small_b).1

service_back : (c : ServiceCategory) → service_category_in (service_category_text c) ≡ Some c
service_back Compute = refl
service_back Storage = refl
service_back Networking = refl
service_back Databases = refl
service_back Other = refl

same_service : (a b : ServiceCategory) → service_category_text a ≡ service_category_text b → a ≡ b
same_service a b e = same_Some a b (sym (service_back a) ∙ ap service_category_in e ∙ service_back b)

category_back : (c : CommitmentCategory) → commitment_category_in (commitment_category_text c) ≡ Some c
category_back Spend = refl
category_back Usage = refl

same_category : (a b : CommitmentCategory) → commitment_category_text a ≡ commitment_category_text b → a ≡ b
same_category a b e = same_Some a b (sym (category_back a) ∙ ap commitment_category_in e ∙ category_back b)

no_label : (t : List ℕ) → IsTrue (is_label t) → t ≡ [] → ⊥
no_label t label e = false≢true (ap is_label (sym e) ∙ label)

-- ---- prices

text_without : (key : Key) (p : PriceRow) → price_text key (without_from p) ≡ price_text key p
text_without keys.PriceId p = refl
text_without keys.Description p = refl
text_without keys.Service p = refl
text_without keys.Category p = refl
text_without keys.ConsumedUnit p = refl
text_without keys.PricingUnit p = refl
text_without keys.Per p = refl
text_without keys.List p = refl
text_without keys.Contracted p = refl
text_without other p = refl

module _ (p q : PriceRow) (p_ok : IsPriceRow p) (q_ok : IsPriceRow q) (sku : q.sku ≡ p.sku) (same : (key : Key) → Contains price_keys key → price_text key p ≡ price_text key q) where
  pub same_row : without_from q ≡ without_from p
  same_row =
      let price_id : q.price_id ≡ p.price_id = sym (same keys.PriceId (0, omega arith, refl)) in
      let description : q.description ≡ p.description = sym (same keys.Description (1, omega arith, refl)) in
      let service : q.service ≡ p.service = sym (same keys.Service (2, omega arith, refl)) in
      let category : q.category ≡ p.category = same_service q.category p.category (sym (same keys.Category (3, omega arith, refl))) in
      let consumed_unit : q.consumed_unit ≡ p.consumed_unit = sym (same keys.ConsumedUnit (4, omega arith, refl)) in
      let pricing_unit : q.pricing_unit ≡ p.pricing_unit = sym (same keys.PricingUnit (5, omega arith, refl)) in
      let per : q.per ≡ p.per = same_number q.per p.per (small q.per q_ok.per.1) (small p.per p_ok.per.1) (sym (same keys.Per (6, omega arith, refl))) in
      let list : q.list ≡ p.list = same_price q.list p.list q_ok.list p_ok.list (sym (same keys.List (7, omega arith, refl))) in
      let contracted : q.contracted ≡ p.contracted = same_price q.contracted p.contracted q_ok.contracted p_ok.contracted (sym (same keys.Contracted (8, omega arith, refl))) in
      λ i. record {
        sku = sku i;
        price_id = price_id i;
        from = pos 0;
        description = description i;
        service = service i;
        category = category i;
        consumed_unit = consumed_unit i;
        pricing_unit = pricing_unit i;
        per = per i;
        list = list i;
        contracted = contracted i;
      }
    where
      small : (n : ℕ) → n ≤ 1_000_000_000 → n < 2 ^ 64
      small n h = omega (arith, h)

module _ (old new : Sheet) (old_ok : IsSheet old) (new_ok : IsSheet new) where
  -- a price of the old sheet for which no line is listed
  pub stays_unlisted : (sku : List ℕ) (day : ℤ) → (is_some (price_in_force old sku day) ≡ true → (date : List ℕ) → price_lines old new (record { sku = sku; day = day }) date ≡ []) → StaysOn old new sku day
  unfolding price_lines
  stays_unlisted sku day none = by_old (price_in_force old sku day) refl
    where
      named : List (List ℕ)
      named = codes "price" ∷ sku ∷ [] ∷ []

      by_new : (p : PriceRow) → price_in_force old sku day ≡ Some p → (o : Option PriceRow) → price_in_force new sku day ≡ o → ((key : Key) → Contains price_keys key → part (price_text key) (Some p) ≡ part (price_text key) o) → option_map without_from o ≡ Some (without_from p)
      by_new p is None not same = absurd (no_label p.price_id (All-contains IsPriceRow old.prices p old_ok.prices (in_force_begun sku day old p is).0).price_id (same keys.PriceId (0, omega arith, refl)))
      by_new p is (Some q) some same =
          let begun = in_force_begun sku day old p is in
          let other = in_force_begun sku day new q some in
          ap Some (same_row p q (All-contains IsPriceRow old.prices p old_ok.prices begun.0) (All-contains IsPriceRow new.prices q new_ok.prices other.0) (other.1 ∙ sym begun.1) same)

      by_old : (o : Option PriceRow) → price_in_force old sku day ≡ o → StaysOn old new sku day
      by_old None is = subst (λ o. Stays o (price_in_force new sku day)) (sym is) tt
      by_old (Some p) is =
          subst (λ o. Stays o (price_in_force new sku day)) (sym is)
          (by_new p is (price_in_force new sku day) refl
          (subst (λ o. (key : Key) → Contains price_keys key → part (price_text key) o ≡ part (price_text key) (price_in_force new sku day)) is
          (all_same price_text named (price_in_force old sku day) (price_in_force new sku day) price_keys (none (ap is_some is) []))))

  -- ---- commitments

  pub commitment_unlisted : (id : List ℕ) (c : Commitment) → commitment_with old id ≡ Some c → commitment_lines old new id ≡ [] → commitment_with new id ≡ Some c
  unfolding commitment_lines
  commitment_unlisted id c is none =
      by_new (commitment_with new id) refl
      (subst (λ o. (key : Key) → Contains commitment_keys key → part (commitment_text key) o ≡ part (commitment_text key) (commitment_with new id)) is
      (all_same commitment_text (codes "commitment" ∷ id ∷ []) (commitment_with old id) (commitment_with new id) commitment_keys none))
    where
      has : IsCommitment c × (is_same c.id id ≡ true)
      has = found IsCommitment (λ x. is_same x.id id) old.commitments c old_ok.commitments is

      by_new : (o : Option Commitment) → commitment_with new id ≡ o → ((key : Key) → Contains commitment_keys key → part (commitment_text key) (Some c) ≡ part (commitment_text key) o) → o ≡ Some c
      by_new None not same = absurd (no_label c.sku has.0.sku (same keys.Sku (0, omega arith, refl)))
      by_new (Some d) some same =
          let there = found IsCommitment (λ x. is_same x.id id) new.commitments d new_ok.commitments some in
          let name : d.id ≡ c.id = same_read d.id id there.1 ∙ sym (same_read c.id id has.1) in
          let sku : d.sku ≡ c.sku = sym (same keys.Sku (0, omega arith, refl)) in
          let buy : d.buy ≡ c.buy = sym (same keys.Buy (1, omega arith, refl)) in
          let category : d.category ≡ c.category = same_category d.category c.category (sym (same keys.Category (2, omega arith, refl))) in
          let kind : d.kind ≡ c.kind = sym (same keys.Kind (3, omega arith, refl)) in
          let rate : d.rate ≡ c.rate = same_price d.rate c.rate there.0.rate has.0.rate (sym (same keys.Rate (4, omega arith, refl))) in
          λ i. Some (record { id = name i; sku = sku i; buy = buy i; category = category i; kind = kind i; rate = rate i })

  -- ---- the law

  from_none : (day : ℤ) → new.base ≡ old.base → ListsNoneBefore day old new → GoesOnFrom day old new
  from_none day base none = record {
    base = base;
    prices = λ sku before p early is. stays_of old new sku before p (stays_on old new (λ d. d <ℤ day) (λ a b h of. first_before a b day h of) rows sku before early) is;
    commitments = λ id c is.
        let it = found (Contains old.commitments) (λ x. is_same x.id id) old.commitments c (All-contains_itself old.commitments) is in
        commitment_unlisted id c is (subst (λ t. commitment_lines old new t ≡ []) (same_read c.id id it.1) (All-contains (λ x. commitment_lines old new x.id ≡ []) old.commitments c none.commitments it.0));
  }
    where
      first_before : (a b c : ℤ) → a ≤ℤ b → b <ℤ c → a <ℤ c
      first_before a b c h k = grind (arith, ints)

      IsUnlisted : PriceDay → Type 0
      IsUnlisted d = d.day <ℤ day → is_some (price_in_force old d.sku d.day) ≡ true → (date : List ℕ) → price_lines old new d date ≡ []

      rows : All (λ r. r.from <ℤ day → StaysOn old new r.sku r.from) (old.prices ++ new.prices)
      rows =
          All-weaker (Contains (old.prices ++ new.prices)) (λ r. r.from <ℤ day → StaysOn old new r.sku r.from)
          (λ r has early. stays_unlisted r.sku r.from (All-contains (λ d. d.day <ℤ day → is_some (price_in_force old d.sku d.day) ≡ true
          → (date : List ℕ) → price_lines old new d date ≡ []) (price_days old new) (price_day r) none.prices
          (mapped_there price_day (old.prices ++ new.prices) r has) early))
          (old.prices ++ new.prices) (All-contains_itself (old.prices ++ new.prices))

  none_of_price : (day : ℤ) → GoesOnFrom day old new → (d : PriceDay) → d.day <ℤ day → is_some (price_in_force old d.sku d.day) ≡ true → (date : List ℕ) → price_lines old new d date ≡ []
  unfolding price_lines
  none_of_price day goes d early some date =
      none_listed price_text (codes "price" ∷ d.sku ∷ date ∷ []) (price_in_force old d.sku d.day) (price_in_force new d.sku d.day) price_keys (λ key. by_old key (price_in_force old d.sku d.day) refl)
    where
      by_new : (key : Key) (p : PriceRow) (o : Option PriceRow) → option_map without_from o ≡ Some (without_from p) → price_text key p ≡ part (price_text key) o
      by_new key p None e = absurd (none-some (without_from p) e)
      by_new key p (Some q) e = sym (text_without key p) ∙ ap (price_text key) (sym (same_Some (without_from q) (without_from p) e)) ∙ text_without key q

      by_old : (key : Key) (o : Option PriceRow) → price_in_force old d.sku d.day ≡ o → part (price_text key) (price_in_force old d.sku d.day) ≡ part (price_text key) (price_in_force new d.sku d.day)
      by_old key None is = absurd (false≢true (sym (ap is_some is) ∙ some))
      by_old key (Some p) is = ap (part (price_text key)) is ∙ by_new key p (price_in_force new d.sku d.day) (goes.prices d.sku d.day p early is)

  none_of_commitment : (day : ℤ) → GoesOnFrom day old new → (c : Commitment) → Contains old.commitments c → commitment_lines old new c.id ≡ []
  unfolding commitment_lines
  none_of_commitment day goes c has =
      let there = find_some (λ (d : Commitment). is_same d.id c.id) old.commitments c has (same_text c.id) in
      none_listed commitment_text (codes "commitment" ∷ c.id ∷ []) (commitment_with old c.id) (commitment_with new c.id) commitment_keys
      (λ key. ap (part (commitment_text key)) (there.1 ∙ sym (goes.commitments c.id there.0 there.1)))

  pub goes_on_unlisted : (day : ℤ) → GoesOnFrom day old new ↔ ((new.base ≡ old.base) × ListsNoneBefore day old new)
  goes_on_unlisted day = (
    λ goes. (
      goes.base,
      record {
        prices = λ k d within. none_of_price day goes (slice_index_or (price_days old new) k d);
        commitments = All-weaker (Contains old.commitments) (λ c. commitment_lines old new c.id ≡ []) (none_of_commitment day goes) old.commitments (All-contains_itself old.commitments);
      },
    ),
    λ is. from_none day is.0 is.1,
  )
