-- Parts of holdings: what they share with the whole.
use Rattle.std.proofs.Common.{◌≡◌, ℕ, zero, suc, ◌<◌, ◌≤◌, Bool, true, false, [], ◌∷◌, refl, sym, subst, ◌∙◌, arith, Option, Some, None, inl, inr, All, is_some, unwrap_or}
use Rattle.std.specs.Prelude.{if◌then◌else◌}
use Rattle.std.proofs.lemmas.Bool.{cases_Bool, cases_lt, cond-true, cond-false}
use Rattle.std.proofs.lemmas.Option.{same_Some, none-some}
use Rattle.std.proofs.lemmas.List.Elements.{All-head, All-tail}
use Rattle.metering_model.specs.Batch.{Batch, IsWellFormed}
use Rattle.metering_model.specs.Cut.{Cut, last_of}
use Rattle.metering_model.specs.Holding.{Holding, IsHolding, IsPartOf, LacksNothingUpTo, AgreeUpTo, is_batch_at, held, put, up_to}
use Rattle.metering_model.specs.Step.{first_missing}
use Rattle.metering_model.proofs.HoldingLaws.{held_place, held-put, held-put_kept, held-up_to, held-up_to_beyond}
use Rattle.metering_model.proofs.BatchOrder.{place_of_batch}
use Rattle.metering_model.proofs.MissingLaws.{some_of, held-up_to_where}

pub held_well : (h : Holding) (agent seq : ℕ) (b : Batch) → All IsWellFormed h → held h agent seq ≡ Some b → IsWellFormed b
held_well [] agent seq b all e = absurd (none-some b e)
held_well (c ∷ h) agent seq b all e = elim (cases_Bool (is_batch_at agent seq c)) [
  | inl at ↦ let same : c ≡ b = same_Some c b (sym (cond-true (is_batch_at agent seq c) (Some c) (held h agent seq) at) ∙ e) in subst IsWellFormed same (All-head IsWellFormed c h all)
  | inr past ↦ held_well h agent seq b (All-tail IsWellFormed c h all) (sym (cond-false (is_batch_at agent seq c) (Some c) (held h agent seq) past) ∙ e)
]

pub none_at_zero : (h : Holding) (agent : ℕ) → IsHolding h → held h agent 0 ≡ None
none_at_zero h agent is = either (held h agent 0) refl
  where
    either : (o : Option Batch) → held h agent 0 ≡ o → o ≡ None
    either None e = refl
    either (Some b) e =
        let well = held_well h agent 0 b is.batches e in
        let place = held_place h agent 0 b e in
        let low = well.seq.0 in
        absurd (omega (arith, place.1))

-- a part that has every batch up to a cut agrees with the whole up to it
pub agree_where_held : (h k : Holding) (cut : Cut) → IsHolding h → IsHolding k → IsPartOf h k → ((agent seq : ℕ) → 0 < seq → seq ≤ last_of cut agent → is_some (held h agent seq) ≡ true) → AgreeUpTo cut h k
agree_where_held h k cut is whole part has = record { same = same }
  where
    same : (agent seq : ℕ) → seq ≤ last_of cut agent → held h agent seq ≡ held k agent seq
    same agent zero within = none_at_zero h agent is ∙ sym (none_at_zero k agent whole)
    same agent (suc s) within =
        let one = some_of (held h agent (suc s)) (has agent (suc s) (omega arith) within) in
        one.1 ∙ sym (part.had agent (suc s) one.0 one.1)

pub agree_where_none_missing : (h k : Holding) (cut : Cut) → IsHolding h → IsHolding k → IsPartOf h k → first_missing h cut ≡ None → AgreeUpTo cut h k
agree_where_none_missing h k cut is whole part none = agree_where_held h k cut is whole part (held-up_to_where h cut none)

-- ---- parts

pub part_of_itself : (h : Holding) → IsPartOf h h
part_of_itself h = record { had = λ agent seq b e. e }

pub IsPartOf-trans : (h k l : Holding) → IsPartOf h k → IsPartOf k l → IsPartOf h l
IsPartOf-trans h k l part whole = record { had = λ agent seq b e. whole.had agent seq b (part.had agent seq b e) }

-- what is put stays a part, where the whole has the batch
pub IsPartOf-put : (h k : Holding) (b : Batch) → IsHolding h → IsPartOf h k → held k b.agent b.seq ≡ Some b → IsPartOf (put h b) k
IsPartOf-put h k b is part found = record { had = λ agent seq c e. by_place agent seq c (sym (held-put h b agent seq is) ∙ e) }
  where
    here : (o : Option Batch) (agent seq : ℕ) (c : Batch) → (b.agent ≡ agent) × (b.seq ≡ seq) → held h agent seq ≡ o → Some (unwrap_or o b) ≡ Some c → held k agent seq ≡ Some c
    here None agent seq c place e f = subst (λ a. held k a seq ≡ Some c) place.0 (subst (λ s. held k b.agent s ≡ Some c) place.1 (found ∙ f))
    here (Some d) agent seq c place e f = part.had agent seq c (e ∙ f)

    by_place : (agent seq : ℕ) (c : Batch) → (if is_batch_at agent seq b then Some (unwrap_or (held h agent seq) b) else held h agent seq) ≡ Some c → held k agent seq ≡ Some c
    by_place agent seq c = by_test (is_batch_at agent seq b) refl
      where
        by_test : (t : Bool) → is_batch_at agent seq b ≡ t → (if t then Some (unwrap_or (held h agent seq) b) else held h agent seq) ≡ Some c → held k agent seq ≡ Some c
        by_test true at e = here (held h agent seq) agent seq c (place_of_batch agent seq b at) refl e
        by_test false past e = part.had agent seq c e

-- a holding is a part of what it becomes
pub IsPartOf-grown : (h : Holding) (b : Batch) → IsHolding h → IsPartOf h (put h b)
IsPartOf-grown h b is = record { had = λ agent seq c. held-put_kept h b c agent seq is }

-- a part that lacks nothing up to a cut agrees up to it
pub agree_where_lacking_nothing : (h k : Holding) (cut : Cut) → IsPartOf h k → LacksNothingUpTo cut h k → AgreeUpTo cut h k
agree_where_lacking_nothing h k cut part lacks = record { same = λ agent seq within. either (held h agent seq) (held k agent seq) agent seq within refl refl }
  where
    either : (o q : Option Batch) (agent seq : ℕ) → seq ≤ last_of cut agent → held h agent seq ≡ o → held k agent seq ≡ q → held h agent seq ≡ held k agent seq
    either (Some b) q agent seq within e f = e ∙ sym (part.had agent seq b e)
    either None (Some b) agent seq within e f = lacks.had agent seq b within f ∙ sym f
    either None None agent seq within e f = e ∙ sym f

-- what a holding has up to a cut is a part that lacks nothing up to it
pub up_to_is_part : (cut : Cut) (h : Holding) → IsPartOf (up_to cut h) h
up_to_is_part cut h = record { had = had h }
  where
    had : (h : Holding) (agent seq : ℕ) (b : Batch) → held (up_to cut h) agent seq ≡ Some b → held h agent seq ≡ Some b
    had h agent seq b e = elim (cases_lt (last_of cut agent) seq) [
      | inr within ↦ sym (held-up_to cut h agent seq within) ∙ e
      | inl beyond ↦ absurd (none-some b (sym (held-up_to_beyond cut h agent seq beyond) ∙ e))
    ]

pub up_to_lacks_nothing : (cut : Cut) (h : Holding) → LacksNothingUpTo cut (up_to cut h) h
up_to_lacks_nothing cut h = record { had = λ agent seq b within e. held-up_to cut h agent seq within ∙ e }
