-- A holding with one batch more.
use Rattle.std.proofs.Common.{◌≡◌, ℕ, true, false, ◌&&◌, [], Some, None, refl, sym, ap, subst, ◌∙◌, ℤ, cond, eq-eqb}
use Rattle.std.specs.List.{slice_get}
use Rattle.std.specs.Option.{option_and_then}
use Rattle.metering_model.specs.Batch.{Batch}
use Rattle.metering_model.specs.Holding.{Holding, IsHolding, Position, held, is_batch_at, put, reading_at, reading_of}
use Rattle.metering_model.specs.JournalRules.{is_fit_target}
use Rattle.metering_model.proofs.BatchOrder.{place_of_batch}
use Rattle.metering_model.proofs.HoldingLaws.{held-put_other, held-put_same}
use Rattle.std.specs.Prelude.{◌==◌, unwrap_or}

module _ (h : Holding) (b : Batch) (p : Position) (value : ℤ) where
  -- what was there elsewhere is still there
  pub fit_elsewhere : (d : Batch) → is_batch_at p.agent p.seq b ≡ false → Some d ≡ held h p.agent p.seq
      → is_fit_target value (option_and_then reading_of (slice_get d.records p.index)) ≡ is_fit_target value (reading_at (put h b) p)
  fit_elsewhere d other there =
      ap (λ o. is_fit_target value (option_and_then (λ (e : Batch). option_and_then reading_of (slice_get e.records p.index)) o)) (there ∙ sym (held-put_other h b p.agent p.seq other))

  pub unfit_elsewhere : is_batch_at p.agent p.seq b ≡ false → None ≡ held h p.agent p.seq → false ≡ is_fit_target value (reading_at (put h b) p)
  unfit_elsewhere other none =
      ap (λ o. is_fit_target value (option_and_then (λ (e : Batch). option_and_then reading_of (slice_get e.records p.index)) o)) (none ∙ sym (held-put_other h b p.agent p.seq other))

  -- and the batch is at its own place
  pub fit_here : is_batch_at p.agent p.seq b ≡ true → held (put h b) b.agent b.seq ≡ Some b
      → is_fit_target value (option_and_then reading_of (slice_get b.records p.index)) ≡ is_fit_target value (reading_at (put h b) p)
  fit_here own there =
      let place = place_of_batch p.agent p.seq b own in
      let found : held (put h b) p.agent p.seq ≡ Some b = subst (λ s. held (put h b) p.agent s ≡ Some b) place.1 (subst (λ a. held (put h b) a b.seq ≡ Some b) place.0 there) in
      ap (λ o. is_fit_target value (option_and_then (λ (e : Batch). option_and_then reading_of (slice_get e.records p.index)) o)) (sym found)

module _ (h : Holding) (b : Batch) (ok : IsHolding h) where
  -- a batch that was put where there was none is at its own place
  pub put_there : held h b.agent b.seq ≡ None → held (put h b) b.agent b.seq ≡ Some b
  put_there none = held-put_same h b ok ∙ ap (λ o. Some (unwrap_or o b)) none

-- a batch that is held is held at its own place
pub own_place : (h : Holding) (b : Batch) (agent seq : ℕ) → held h agent seq ≡ Some b → b.agent ≡ agent → b.seq ≡ seq → held h b.agent b.seq ≡ Some b
own_place h b agent seq there is_agent is_seq =
    subst (λ a. held h a b.seq ≡ Some b) (sym is_agent) (subst (λ s. held h agent s ≡ Some b) (sym is_seq) there)

-- a batch alone is at its own place
pub alone_there : (b : Batch) → held (put [] b) b.agent b.seq ≡ Some b
alone_there b =
    ap (λ t. cond (t && (b.seq == b.seq)) (Some b) None) (eq-eqb b.agent b.agent refl)
    ∙ ap (λ t. cond t (Some b) None) (eq-eqb b.seq b.seq refl)
