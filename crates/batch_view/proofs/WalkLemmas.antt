-- What a walk over the records of a batch has given, for callers' loops and chains.
use Rattle.std.proofs.Common.{◌≡◌, ℕ, zero, suc, ◌+◌, List, [], ◌∷◌, ◌++◌, length, map, Some, sym, ap, subst, ◌∙◌, arith, append-nil}
use Rattle.std.specs.Iterator.{Yields, Drains}
use Rattle.std.specs.List.{slice_get}
use Rattle.std.proofs.lemmas.Iterator.{YieldsList}
use Rattle.std.proofs.lemmas.Iterator.Consumers.{YieldsList-from_shown}
use Rattle.record_view.specs.Lent.{record_of}
use Rattle.batch_view.specs.Batches.{IsLentAt, RecordsLeft, records_left, GivesNext}
use Rattle.record_view.specs.declared.records.Record.{Record as LentRecord}

-- for the consumers of a chain
pub YieldsList-records : (walk : RecordsLeft) → YieldsList GivesNext record_of walk (records_left walk)
YieldsList-records walk = YieldsList-from_shown GivesNext record_of records_left (λ s t h. ap length h.first.0) (λ s x t h. h.first) walk

-- for a loop: the records that came, and then those that are left, are all
pub front_of_records : (walk : RecordsLeft) (given : List LentRecord) (rest : RecordsLeft) → Yields GivesNext walk given rest → records_left walk ≡ map record_of given ++ records_left rest
front_of_records walk [] rest e = ap records_left e
front_of_records walk (r ∷ rs) rest e = e.1.first ∙ ap (λ xs. record_of r ∷ xs) (front_of_records e.0 rs rest e.2)

-- all that came are all there are
pub all_records : (walk : RecordsLeft) (given : List LentRecord) → Drains GivesNext walk given → map record_of given ≡ records_left walk
all_records walk given d =
    sym (front_of_records walk given d.1.0 d.1.1 ∙ ap (λ rs. map record_of given ++ rs) d.1.2.first.0 ∙ append-nil (map record_of given))

-- each is lent from its line
pub lent_records : (walk : RecordsLeft) (given : List LentRecord) (rest : RecordsLeft) (k : ℕ) (r : LentRecord) → Yields GivesNext walk given rest → slice_get given k ≡ Some r → IsLentAt walk.bytes (walk.index + k) r
lent_records walk [] rest k r e is = absurd (cc)
lent_records walk (x ∷ xs) rest zero r e is =
    let same : x ≡ r = cc in
    let here : walk.index ≡ walk.index + 0 = omega arith in
    subst (λ n. IsLentAt walk.bytes n r) here (subst (IsLentAt walk.bytes walk.index) same e.1.lent)
lent_records walk (x ∷ xs) rest (suc k) r e is =
    let later = lent_records e.0 xs rest k r e.2 is in
    let there : walk.index + 1 + k ≡ walk.index + suc k = omega arith in
    subst (λ n. IsLentAt walk.bytes n r) there (subst (λ (w : RecordsLeft). IsLentAt w.bytes (w.index + k) r) e.1.walk later)
