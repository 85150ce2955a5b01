-- What a map from texts has after one more text.
use Rattle.std.proofs.Common.{◌≡◌, ℕ, Bool, true, false, List, Some, Vec, bytes_eq, refl, sym, subst, ◌∙◌, if◌then◌else◌}
use Rattle.std.specs.Cmp.Lexicographic.{bytes_decides, nat_list_eq_equiv}
use Rattle.std.specs.Map.{KeepsOthers}
use Rattle.std.specs.HashMap.{HashMap, UpdatesBy}
use Rattle.metering_model.specs.BatchReading.{is_same}
use Rattle.sheet_text.proofs.Texts.{same_is}
use Rattle.price_sheet.specs.Inner.Places.{found_at, Puts}

pub same_texts : (xs ys : List ℕ) → is_same xs ys ≡ true → xs ≡ ys
same_texts xs ys h = (bytes_decides xs ys).0 (sym (same_is xs ys) ∙ h)

-- a text that another is told apart from is told apart from all that are the same as that one
told_apart : (text other key : List ℕ) → bytes_eq text other ≡ false → bytes_eq text key ≡ true → bytes_eq other key ≡ false
told_apart text other key apart same = nat_list_eq_equiv.symm other key ∙ sym (nat_list_eq_equiv.congr text key other same) ∙ apart

module _ {V Z S : Type 0} (old new : HashMap (Vec ℕ Z) V S) (text : List ℕ) (value : V) where
  kept : UpdatesBy (λ x y. bytes_eq x.items y.items) (λ key. bytes_eq text key.items) old new (Some value) → (other : List ℕ) → bytes_eq text other ≡ false → found_at other new.entries ≡ found_at other old.entries
  unfolding KeepsOthers
  kept h other apart = h.3 (λ key. bytes_eq other key.items) (λ x y. nat_list_eq_equiv.congr other x.items y.items) (λ key. told_apart text other key.items apart)

  pub puts : UpdatesBy (λ x y. bytes_eq x.items y.items) (λ key. bytes_eq text key.items) old new (Some value) → Puts text value old.entries new.entries
  puts h other = by (is_same text other) refl
    where
      by : (b : Bool) → is_same text other ≡ b → found_at other new.entries ≡ (if b then Some value else found_at other old.entries)
      by true e = subst (λ t. found_at t new.entries ≡ Some value) (same_texts text other e) h.1
      by false e = kept h other (sym (same_is text other) ∙ e)
