-- What is charged up to a cut depends only on the batches up to it.
use Rattle.std.proofs.Common.{◌≡◌, ℕ, zero, suc, ◌<◌, ◌≤◌, Bool, false, ◌&&◌, List, [], ◌∷◌, ◌++◌, map, filter, Option, Some, None, unwrap_or, option_map, slice_index, ℤ, pos, refl, sym, ap, ◌∙◌, arith}
use Rattle.std.proofs.Math.Path.{fun_ext}
use Rattle.std.specs.Prelude.{◌==◌, nat_lt, nat_le, if◌then◌else◌}
use Rattle.std.specs.List.{enumerate_from, filter_map, last_or}
use Rattle.std.proofs.lemmas.Bool.{and_parts, cond-false, eqb-true, leb-true, false_from_ne_true}
use Rattle.std.proofs.lemmas.List.Elements.{filter-append}
use Rattle.metering_model.specs.Batch.{Batch, Record, Reads, Amends, Reading}
use Rattle.metering_model.specs.Cut.{Cut, IsAtLeast, last_of}
use Rattle.metering_model.specs.Sheet.{Sheet, Issuer}
use Rattle.metering_model.specs.Holding.{Holding, IsHolding, AgreeUpTo, Position, Placed, records_in_order, placed, up_to}
use Rattle.metering_model.specs.ValueAtSequence.{value_at, value_given_by, journal_until}
use Rattle.metering_model.specs.declared.ChargeClass.TheVariants.{New, Correction}
use Rattle.metering_model.specs.Row.{Row, row}
use Rattle.metering_model.specs.Rows.{differ, row_of, row_of_reading, placed_row, placed_rows, rows}
use Rattle.metering_model.proofs.HoldingLaws.{same_up_to, up_to_cases, up_to-up_to}

-- ---- cuts

-- the greater cut is greater at each index
at_least_at : (old new : Cut) (i : ℕ) → IsAtLeast new old → slice_index old i ≤ slice_index new i
at_least_at [] [] i grows = omega arith
at_least_at [] (y ∷ ys) i grows = absurd grows
at_least_at (x ∷ xs) [] i grows = absurd grows
at_least_at (x ∷ xs) (y ∷ ys) zero grows = grows.0
at_least_at (x ∷ xs) (y ∷ ys) (suc i) grows = at_least_at xs ys i grows.1

-- each agent's last sequence grows with the cut
pub last_of_grows : (old new : Cut) (agent : ℕ) → IsAtLeast new old → last_of old agent ≤ last_of new agent
last_of_grows old new zero grows = omega arith
last_of_grows old new (suc a) grows = at_least_at old new a grows

-- Two holdings that agree up to a cut agree up to an earlier one.
pub AgreeUpTo-earlier : (old new : Cut) (h k : Holding) → IsAtLeast new old → AgreeUpTo new h k → AgreeUpTo old h k
AgreeUpTo-earlier old new h k grows agree = record {
  same = λ agent seq within. let grown = last_of_grows old new agent grows in agree.same agent seq (omega arith);
}

-- ---- values

-- whether a record is the agent's, up to a sequence
abbrev is_until : ℕ → ℕ → Placed → Bool
is_until agent upto x = (x.place.agent == agent) && nat_le x.place.seq upto

-- a record of a batch, placed
abbrev place_in : Batch → ℕ × Record → Placed
place_in b e = record { place = record { agent = b.agent; seq = b.seq; index = e.0 }; what = e.1 }

-- a batch of another agent, or past the sequence, has no such record
none_until : (b : Batch) (agent upto : ℕ) → ((b.agent == agent) && nat_le b.seq upto) ≡ false → (es : List (ℕ × Record)) → filter (is_until agent upto) (map (place_in b) es) ≡ []
none_until b agent upto past [] = refl
none_until b agent upto past (e ∷ es) = cond-false _ (place_in b e ∷ filter (is_until agent upto) (map (place_in b) es)) (filter (is_until agent upto) (map (place_in b) es)) past ∙ none_until b agent upto past es

-- neither has a batch beyond a cut, where the sequence is within it
past_batch : (cut : Cut) (b : Batch) (agent upto : ℕ) → last_of cut b.agent < b.seq → upto ≤ last_of cut agent → ((b.agent == agent) && nat_le b.seq upto) ≡ false
past_batch cut b agent upto beyond within = false_from_ne_true _ (λ both.
    let parts = and_parts (b.agent == agent) (nat_le b.seq upto) both in
    let less = leb-true b.seq upto parts.1 in
    let same : last_of cut b.agent ≡ last_of cut agent = ap (last_of cut) (eqb-true b.agent agent parts.0) in
    omega arith)

-- an agent's records up to a sequence within the cut are in the batches up to the cut
pub journal_until-up_to : (cut : Cut) (h : Holding) (agent upto : ℕ) → upto ≤ last_of cut agent → journal_until (up_to cut h) agent upto ≡ journal_until h agent upto
journal_until-up_to cut [] agent upto within = refl
journal_until-up_to cut (b ∷ h) agent upto within =
    let rest = journal_until-up_to cut h agent upto within in
    let p = is_until agent upto in
    let joined = λ (k : Holding). filter-append p (placed b) (records_in_order k) in
    up_to_cases (λ k. journal_until k agent upto ≡ journal_until (b ∷ h) agent upto) cut b h
    (λ _. joined (up_to cut h) ∙ (ap (λ xs. filter p (placed b) ++ xs) rest ∙ sym (joined h)))
    (λ beyond. let none = none_until b agent upto (past_batch cut b agent upto beyond within) (enumerate_from 0 b.records) in
    rest ∙ sym (joined h ∙ ap (λ xs. xs ++ journal_until h agent upto) none))

-- so is what a reading is worth
pub value_at-up_to : (cut : Cut) (h : Holding) (at : Position) (upto : ℕ) → upto ≤ last_of cut at.agent → value_at (up_to cut h) at upto ≡ value_at h at upto
value_at-up_to cut h at upto within =
    ap (λ (xs : List Placed). if nat_lt upto at.seq then pos 0 else unwrap_or (last_or None (filter_map (value_given_by at) xs)) (pos 0)) (journal_until-up_to cut h at.agent upto within)

-- Holdings that agree up to a cut give a reading the same value up to it.
pub same_value : (h k : Holding) (cut : Cut) (at : Position) (upto : ℕ) → IsHolding h → IsHolding k → AgreeUpTo cut h k → upto ≤ last_of cut at.agent → value_at h at upto ≡ value_at k at upto
same_value h k cut at upto ok ok' agree within =
    sym (value_at-up_to cut h at upto within) ∙ (ap (λ x. value_at x at upto) (same_up_to cut h k ok ok' agree) ∙ value_at-up_to cut k at upto within)

-- ---- rows

-- the row of a reading by its two values
abbrev row_between : Sheet → Issuer → ℕ → Cut → Position → Reading → ℤ → ℤ → Option Row
row_between sheet issuer period from at r was now =
    if nat_lt (last_of from at.agent) at.seq then Some (row sheet issuer r period New (pos 0) now)
    else (if differ was now then Some (row sheet issuer r period Correction was now) else None)

module _ (sheet : Sheet) (issuer : Issuer) (h k : Holding) (period : ℕ) (from to : Cut) (same : (at : Position) (upto : ℕ) → upto ≤ last_of to at.agent → value_at h at upto ≡ value_at k at upto) (grows : IsAtLeast to from) where
  -- where the values are the same, so are the rows
  same_row : (at : Position) (r : Reading) → row_of_reading sheet issuer h period from to at r ≡ row_of_reading sheet issuer k period from to at r
  same_row at r =
      ap (λ was. row_between sheet issuer period from at r was (value_at h at (last_of to at.agent))) (same at (last_of from at.agent) (last_of_grows from to at.agent grows))
      ∙ ap (λ now. row_between sheet issuer period from at r (value_at k at (last_of from at.agent)) now) (same at (last_of to at.agent) (omega arith))

  same_row_of : (at : Position) (what : Record) → row_of sheet issuer h period from to at what ≡ row_of sheet issuer k period from to at what
  same_row_of at (Reads r) = same_row at r
  same_row_of at (Amends seq index value) = refl

  same_placed_row : (x : Placed) → placed_row sheet issuer h period from to x ≡ placed_row sheet issuer k period from to x
  same_placed_row x = ap (option_map (λ (r : Row). record { place = x.place; row = r })) (same_row_of x.place x.what)

-- The rows up to the cut `to` are those of the batches up to it.
pub placed_rows-up_to : (sheet : Sheet) (issuer : Issuer) (h : Holding) (period : ℕ) (from to : Cut) → IsAtLeast to from → placed_rows sheet issuer (up_to to h) period from to ≡ placed_rows sheet issuer h period from to
placed_rows-up_to sheet issuer h period from to grows =
    ap (λ f. filter_map f (records_in_order (up_to to (up_to to h)))) (fun_ext (same_placed_row sheet issuer (up_to to h) h period from to (value_at-up_to to h) grows))
    ∙ ap (λ x. filter_map (placed_row sheet issuer h period from to) (records_in_order x)) (up_to-up_to to h)

-- Holdings that agree up to the cut `to` have the same rows up to it.
pub same_placed_rows : (sheet : Sheet) (issuer : Issuer) (h k : Holding) (period : ℕ) (from to : Cut) → IsHolding h → IsHolding k → AgreeUpTo to h k → IsAtLeast to from → placed_rows sheet issuer h period from to ≡ placed_rows sheet issuer k period from to
same_placed_rows sheet issuer h k period from to ok ok' agree grows =
    ap (λ f. filter_map f (records_in_order (up_to to h))) (fun_ext (same_placed_row sheet issuer h k period from to (λ at upto. same_value h k to at upto ok ok' agree) grows))
    ∙ ap (λ x. filter_map (placed_row sheet issuer k period from to) (records_in_order x)) (same_up_to to h k ok ok' agree)

-- and so without the positions
pub same_rows : (sheet : Sheet) (issuer : Issuer) (h k : Holding) (period : ℕ) (from to : Cut) → IsHolding h → IsHolding k → AgreeUpTo to h k → IsAtLeast to from → rows sheet issuer h period from to ≡ rows sheet issuer k period from to
same_rows sheet issuer h k period from to ok ok' agree grows = ap (map (λ x. x.row)) (same_placed_rows sheet issuer h k period from to ok ok' agree grows)
