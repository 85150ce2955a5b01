-- Tests that compute, of what the laws ask: that no batch was refused for a price, and that regions are named alike.
use Rattle.std.proofs.Common.{◌≡◌, ℕ, Bool, true, false, not, List, [], ◌∷◌, refl, sym, ap, subst, ◌∙◌, inl, inr, Option, Some, None, Contains}
use Rattle.std.specs.Prelude.{◌≢◌}
use Rattle.std.specs.List.{list_all}
use Rattle.std.proofs.lemmas.Bool.{and_parts, cond-true, cond-false, cases_Bool}
use Rattle.std.proofs.lemmas.Option.{same_Some, none-some}
use Rattle.std.proofs.lemmas.List.Elements.{All-nil, All-cons}
use Rattle.metering_model.specs.Batch.{Batch, Record, Reads, Amends}
use Rattle.metering_model.specs.BatchReading.{is_same}
use Rattle.metering_model.specs.Sheet.{Sheet, Issuer}
use Rattle.metering_model.specs.PriceInForce.{region_named}
use Rattle.metering_model.specs.Holding.{Holding, is_batch_at, held}
use Rattle.metering_model.specs.Row.{region_of}
use Rattle.metering_model.specs.declared.Refusal.TheVariants.{Unpriced}
use Rattle.metering_model.specs.Limits.{most_packets}
use Rattle.metering_model.specs.World.{Event, Snapshot, Reply, Exported, Refused, opening}
use Rattle.metering_model.specs.Step.{play}
use Rattle.metering_model.proofs.FieldLaws.{same_read}
use Rattle.group_laws.proofs.EveryRun.{holds_after}
use Rattle.sheet_laws.specs.Longer.{NamesAlike, NamesAllAlike}
use Rattle.sheet_laws.specs.Runs.{AreAllPriced, is_unpriced}
use Rattle.sheet_laws.proofs.Months.{in_batch, each_passes}

-- ---- replies

abbrev pub are_all_priced : List Reply → Bool
are_all_priced rs = list_all (λ r. not (is_unpriced r)) rs

pub all_priced : (rs : List Reply) → are_all_priced rs ≡ true → AreAllPriced rs
all_priced [] h = All-nil (λ (r : Reply). r ≢ Refused Unpriced)
all_priced (r ∷ rs) h =
    let parts = and_parts (not (is_unpriced r)) (are_all_priced rs) h in
    All-cons (λ (r : Reply). r ≢ Refused Unpriced) r rs (λ e. let no : false ≡ true = subst (λ x. not (is_unpriced x) ≡ true) e parts.0 in absurd (cc)) (all_priced rs parts.1)

-- ---- regions

abbrev pub is_same_name : Option (List ℕ) → Option (List ℕ) → Bool
is_same_name None None = true
is_same_name None (Some t) = false
is_same_name (Some s) None = false
is_same_name (Some s) (Some t) = is_same s t

same_name_read : (o p : Option (List ℕ)) → is_same_name o p ≡ true → o ≡ p
same_name_read None None h = refl
same_name_read None (Some t) h = absurd (cc)
same_name_read (Some s) None h = absurd (cc)
same_name_read (Some s) (Some t) h = ap (λ x. Some x) (same_read s t h)

abbrev pub is_named_alike : Sheet → Sheet → Option (List ℕ) → Bool
is_named_alike old new None = true
is_named_alike old new (Some id) = is_same_name (region_named new id) (region_named old id)

abbrev pub names_record_alike : Sheet → Sheet → Record → Bool
names_record_alike old new (Reads r) = is_named_alike old new (region_of r)
names_record_alike old new (Amends seq index value) = true

abbrev pub names_batch_alike : Sheet → Sheet → Batch → Bool
names_batch_alike old new b = list_all (names_record_alike old new) b.records

module _ (old new : Sheet) where
  by_region : (o : Option (List ℕ)) → is_named_alike old new o ≡ true → (id : List ℕ) → o ≡ Some id → NamesAlike old new id
  by_region None h id e = absurd (none-some id e)
  by_region (Some x) h id e = subst (NamesAlike old new) (same_Some x id e) (same_name_read (region_named new x) (region_named old x) h)

  held_passes : (h : Holding) (agent seq : ℕ) (b : Batch) → list_all (names_batch_alike old new) h ≡ true → held h agent seq ≡ Some b → names_batch_alike old new b ≡ true
  held_passes [] agent seq b all e = absurd (none-some b e)
  held_passes (c ∷ h) agent seq b all e =
      let parts = and_parts (names_batch_alike old new c) (list_all (names_batch_alike old new) h) all in
      elim (cases_Bool (is_batch_at agent seq c)) [
        | inl t ↦ subst (λ x. names_batch_alike old new x ≡ true) (same_Some c b (sym (cond-true (is_batch_at agent seq c) (Some c) (held h agent seq) t) ∙ e)) parts.0
        | inr f ↦ held_passes h agent seq b parts.1 (sym (cond-false (is_batch_at agent seq c) (Some c) (held h agent seq) f) ∙ e)
      ]

  pub named_alike : (h : Holding) → list_all (names_batch_alike old new) h ≡ true → NamesAllAlike old new h
  named_alike h all at r e =
      let b = in_batch h at r e in
      by_region (region_of r) (each_passes (names_record_alike old new) b.0.records at.index (Reads r) (held_passes h at.agent at.seq b.0 all b.1) b.2)

-- ---- exports

-- there is one export of a period, so what holds of its batches holds of those of any
pub alike_exports : (voters observers agents : ℕ) (old new : Sheet) (issuer : Issuer) (events : List Event) (t : Snapshot) →
    Contains (play (opening voters observers agents old issuer) events).0 (Exported t) → NamesAllAlike old new t.batches →
    (s : Snapshot) → Contains (play (opening voters observers agents old issuer) events).0 (Exported s) → s.period ≡ t.period → NamesAllAlike old new s.batches
alike_exports voters observers agents old new issuer events t there alike s has is =
    let one = (holds_after most_packets voters observers agents old issuer events).one_export s t has there is in
    subst (λ (u : Snapshot). NamesAllAlike old new u.batches) (sym one) alike
