-- One step of a walk over the records of a batch.
use Rattle.std.proofs.Common.{◌≡◌, ℕ, ◌+◌, ◌<◌, List, ◌∷◌, length, map, drop, Option, Some, None, refl, sym, ap, subst, ◌∙◌, arith}
use Rattle.std.specs.List.{slice_get}
use Rattle.std.specs.Option.{MatchOption, option_map}
use Rattle.batch_view.specs.Batches.{batch_of}
use Rattle.batch_view.specs.Asked.{asked_in, record_asked, GivesAsked}
use Rattle.batch_view.specs.Inner.Lines.{AreBatch, IsBehindLines, LendsRecord}
use Rattle.batch_view.specs.Inner.Entries.{IsWalk}
use Rattle.batch_view.specs.declared.asked.Asked.{Asked}
use Rattle.batch_view.specs.declared.entries.Entry.{Entry}
use Rattle.batch_view.specs.declared.head.Head.{Head}
use Rattle.record_view.specs.declared.records.Record.{Record as LentRecord}
use Rattle.batch_view.proofs.BatchLemmas.{IsRecordOf, there, record_read}
use denote.Ref.{Bor}

-- a walk that is not at its end, where no entries are kept
module _ (bytes : List ℕ) (h : Head) (kept : Option (Bor (List Entry))) (index at : ℕ) (walk : IsWalk bytes h kept index at) (more : index ≡ h.count → ⊥) (none : kept ≡ None) where
  within : index < length (batch_of bytes).records
  within = omega (arith, walk.view.head.count, walk.within, more)

  pub behind : IsBehindLines bytes (index + 1) at
  behind = subst (λ k. MatchOption k (IsBehindLines bytes (index + 1) at) (λ es. Unit {0})) none walk.behind

  pub read : (r : LentRecord) (next : ℕ) → LendsRecord h.version bytes at r next → IsRecordOf bytes index r next
  read r next lends = record_read h.version bytes index at r next walk.view.head.version walk.view.head.are within behind lends

  pub walks_on : (r : LentRecord) (next : ℕ) → LendsRecord h.version bytes at r next → IsWalk bytes h kept (index + 1) next
  walks_on r next lends =
      let two : index + 2 ≡ index + 1 + 1 = omega arith in
      record {
        view = walk.view;
        within = omega (arith, walk.within, more);
        behind = subst (λ k. MatchOption k (IsBehindLines bytes (index + 1 + 1) next) (λ es. Unit {0})) (sym none) (subst (λ n. IsBehindLines bytes n next) two (read r next lends).behind);
      }

-- what is asked of a record that is looked up is asked of the first that is left
pub asked_there : (bytes : List ℕ) (index : ℕ) (o : Option Asked) → AreBatch bytes → index < length (batch_of bytes).records
    → option_map record_asked o ≡ option_map asked_in (slice_get (batch_of bytes).records index)
    → GivesAsked (record { bytes = bytes; index = index }) o (record { bytes = bytes; index = index + 1 })
asked_there bytes index None are within is =
    let found = is ∙ ap (option_map asked_in) (there bytes index are within).got in
    absurd (cc)
asked_there bytes index (Some a) are within is =
    let stands = there bytes index are within in
    let found : Some (record_asked a) ≡ Some (asked_in stands.one) = is ∙ ap (option_map asked_in) stands.got in
    let same : asked_in stands.one ≡ record_asked a = cc in
    record { first = ap (map asked_in) stands.left ∙ ap (λ x. x ∷ map asked_in (drop (index + 1) (batch_of bytes).records)) same; walk = refl }
