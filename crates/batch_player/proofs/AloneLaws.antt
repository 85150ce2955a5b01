-- What is charged of one batch that is journaled alone: each of its readings at its last value, or nothing.
use Rattle.std.proofs.Common.{◌≡◌, ℕ, zero, suc, ◌+◌, ◌≤◌, Bool, true, max, fold, cond, false, ◌&&◌, List, [], ◌∷◌, map, length, filter, Some, None, unwrap_or, option_map, pos, refl, sym, ap, subst, ◌∙◌, arith, inl, inr, append-nil, eq-eqb}
use Rattle.std.specs.Prelude.{◌==◌, nat_lt, nat_le, if◌then◌else◌}
use Rattle.std.specs.List.{enumerate_from, filter_map, last_or, cons_option}
use Rattle.std.specs.Option.{option_map_or}
use Rattle.std.proofs.lemmas.Bool.{and_from, cond-true, cond-false, cases_lt}
use Rattle.std.proofs.Math.Bool.{and-true}
use Rattle.std.proofs.lemmas.List.{get_or-replicate, length-replicate, get_or_past}
use Rattle.std.proofs.lemmas.List.FromFn.{get_or-map-range_with_len}
use Rattle.metering_model.specs.Batch.{Batch, Record, Reads, Amends}
use Rattle.metering_model.specs.declared.Version.{Version}
use Rattle.metering_model.specs.Cut.{Cut, zero_cut, last_of}
use Rattle.metering_model.specs.Sheet.{Sheet, Issuer}
use Rattle.metering_model.specs.Holding.{Holding, Position, Placed, placed, held, records_in_order, up_to}
use Rattle.metering_model.specs.ValueAtSequence.{value_at, value_given_by, journal_until}
use Rattle.metering_model.specs.Front.{is_due, can_close, front_of, front}
use Rattle.metering_model.specs.declared.ChargeClass.TheVariants.{New}
use Rattle.metering_model.specs.Row.{Row, row}
use Rattle.metering_model.specs.Rows.{placed_row}
use Rattle.metering_model.proofs.HoldingLaws.{IsHolding-nil, held-put_same}
use Rattle.metering_model.specs.RatedAlone.{rows_alone}
use Rattle.batch_player.specs.Charges.{Metered, last_value, metered_at, metered_in}

-- an agent's first batch
abbrev pub first_batch : Version → ℕ → List Record → Batch
first_batch version agent rs = record { version = version; agent = agent; seq = 1; records = rs }

-- ---- cuts

-- the zero cut charges nothing of any agent
pub last_of_zero : (n agent : ℕ) → last_of (zero_cut n) agent ≡ 0
last_of_zero n zero = refl
last_of_zero n (suc a) = elim (cases_lt a n) [
  | inl within ↦ get_or-replicate n a 0 0 within
  | inr beyond ↦ get_or_past (zero_cut n) a 0 (let long : length (zero_cut n) ≡ n = length-replicate n 0 in omega arith)
]

-- the front's entry of an agent
last_of_front : (base : ℕ) (h : Holding) (agents period agent : ℕ) → 1 ≤ agent → agent ≤ agents
    → last_of (front base h (zero_cut agents) period) agent ≡ front_of base period h agent 0
last_of_front base h agents period zero from upto = absurd (omega arith)
last_of_front base h agents period (suc a) from upto =
    let long : length (zero_cut agents) ≡ agents = length-replicate agents 0 in
    get_or-map-range_with_len (λ agent. front_of base period h agent (last_of (zero_cut agents) agent)) 1 (length (zero_cut agents)) a (suc a) 0 (omega arith) (omega arith)
    ∙ ap (front_of base period h (suc a)) (last_of_zero agents (suc a))

-- a number is itself
same_number : (n : ℕ) → (n == n) ≡ true
same_number n = eq-eqb n n refl

-- a batch that is held alone is held at its place
held_alone : (version : Version) (agent : ℕ) (rs : List Record) → held (first_batch version agent rs ∷ []) agent 1 ≡ Some (first_batch version agent rs)
held_alone version agent rs = held-put_same [] (first_batch version agent rs) IsHolding-nil

-- so all of the agent can be closed up to it, where it is due
can_close_alone : (version : Version) (base period agent : ℕ) (rs : List Record)
    → can_close base period (first_batch version agent rs ∷ []) agent 0 1 ≡ is_due base period (first_batch version agent rs)
can_close_alone version base period agent rs =
    ap (λ found. option_map_or (is_due base period) found false && true) (held_alone version agent rs) ∙ and-true _

-- and that is how far the agent can be closed
front_alone : (version : Version) (base period agent : ℕ) (rs : List Record)
    → front_of base period (first_batch version agent rs ∷ []) agent 0 ≡ (if is_due base period (first_batch version agent rs) then 1 else 0)
front_alone version base period agent rs =
    let b = first_batch version agent rs in
    let closes = can_close base period (b ∷ []) agent 0 in
    ap (λ (bs : List Batch). fold max 0 (filter closes (map (λ b. b.seq) bs))) (cond-true (agent == agent) (b ∷ []) [] (same_number agent))
    ∙ (ap (λ t. fold max 0 (cond t (1 ∷ []) [])) (can_close_alone version base period agent rs) ∙ ends (is_due base period b))
  where
    ends : (t : Bool) → fold max 0 (cond t (1 ∷ []) []) ≡ (if t then 1 else 0)
    ends true = refl
    ends false = refl

-- ---- values

-- records of one batch, placed from an index on
abbrev pub placed_from : ℕ → ℕ → List Record → List Placed
placed_from agent i rs = map (λ e. record { place = record { agent = agent; seq = 1; index = e.0 }; what = e.1 }) (enumerate_from i rs)

abbrev pub place_of : ℕ → ℕ → Position
place_of agent index = record { agent = agent; seq = 1; index = index }

-- all of these records are of the agent, up to the batch
journal_of_all : (agent i : ℕ) (rs : List Record)
    → filter (λ x. (x.place.agent == agent) && nat_le x.place.seq 1) (placed_from agent i rs) ≡ placed_from agent i rs
journal_of_all agent i [] = refl
journal_of_all agent i (r ∷ rs) =
    cond-true ((agent == agent) && true) _ _ (and_from _ _ (same_number agent) refl)
    ∙ ap (λ xs. record { place = place_of agent i; what = r } ∷ xs) (journal_of_all agent (i + 1) rs)

-- what the journals give a reading is its last value in the batch
pub value_alone : (version : Version) (agent index : ℕ) (rs : List Record)
    → value_at (first_batch version agent rs ∷ []) (place_of agent index) 1 ≡ last_value (placed_from agent 0 rs) (place_of agent index)
value_alone version agent index rs =
    let journal : journal_until (first_batch version agent rs ∷ []) agent 1 ≡ placed_from agent 0 rs =
    ap (filter (λ x. (x.place.agent == agent) && nat_le x.place.seq 1)) (append-nil (placed_from agent 0 rs)) ∙ journal_of_all agent 0 rs in
    ap (λ xs. unwrap_or (last_or None (filter_map (value_given_by (place_of agent index)) xs)) (pos 0)) journal

-- ---- rows

-- the row of a reading that is charged whole
abbrev pub row_of_metered : Sheet → Issuer → ℕ → Metered → Row
row_of_metered sheet issuer period m = row sheet issuer m.reading period New (pos 0) m.value

-- the rows of records that are charged whole, in order
rows_from : (sheet : Sheet) (issuer : Issuer) (h : Holding) (period : ℕ) (from to : Cut) (agent : ℕ) (all : List Placed) (i : ℕ) (rs : List Record)
    → last_of from agent ≡ 0
    → ((index : ℕ) → value_at h (place_of agent index) (last_of to agent) ≡ last_value all (place_of agent index))
    → map (λ x. x.row) (filter_map (placed_row sheet issuer h period from to) (placed_from agent i rs))
    ≡ map (row_of_metered sheet issuer period) (filter_map (metered_at all) (placed_from agent i rs))
rows_from sheet issuer h period from to agent all i [] uncharged values = refl
rows_from sheet issuer h period from to agent all i (Reads t ∷ rs) uncharged values =
    let new : nat_lt (last_of from agent) 1 ≡ true = ap (λ n. nat_lt n 1) uncharged in
    let at = place_of agent i in
    let placed_at = option_map (λ (r : Row). record { place = at; row = r }) in
    let rest = filter_map (placed_row sheet issuer h period from to) (placed_from agent (i + 1) rs) in
    ap (λ o. map (λ x. x.row) (cons_option (placed_at o) rest)) (cond-true _ (Some (row sheet issuer t period New (pos 0) (value_at h at (last_of to agent)))) _ new)
    ∙ (ap (λ v. row sheet issuer t period New (pos 0) v ∷ map (λ x. x.row) rest) (values i)
    ∙ ap (λ xs. row sheet issuer t period New (pos 0) (last_value all at) ∷ xs) (rows_from sheet issuer h period from to agent all (i + 1) rs uncharged values))
rows_from sheet issuer h period from to agent all i (Amends seq index value ∷ rs) uncharged values =
    rows_from sheet issuer h period from to agent all (i + 1) rs uncharged values

-- the rows of a first batch
rows_of_first : (version : Version) (sheet : Sheet) (issuer : Issuer) (agent : ℕ) (rs : List Record) (period : ℕ) → 1 ≤ agent → agent ≤ 64
    → rows_alone sheet issuer (first_batch version agent rs) period
    ≡ (if is_due sheet.base period (first_batch version agent rs) then map (row_of_metered sheet issuer period) (metered_in (first_batch version agent rs)) else [])
rows_of_first version sheet issuer agent rs period from upto = by_due (is_due sheet.base period b) refl
  where
    b : Batch
    b = first_batch version agent rs

    to : Cut
    to = front sheet.base (b ∷ []) (zero_cut 64) period

    charged : Holding → List Row
    charged h = map (λ x. x.row) (filter_map (placed_row sheet issuer (b ∷ []) period (zero_cut 64) to) (records_in_order h))

    reach : last_of to agent ≡ (if is_due sheet.base period b then 1 else 0)
    reach = last_of_front sheet.base (b ∷ []) 64 period agent from upto ∙ front_alone version sheet.base period agent rs

    by_due : (due : Bool) → is_due sheet.base period b ≡ due
        → charged (up_to to (b ∷ [])) ≡ (if due then map (row_of_metered sheet issuer period) (metered_in b) else [])
    by_due true e =
        let one : last_of to agent ≡ 1 = reach ∙ ap (λ due. if due then 1 else 0) e in
        ap charged (cond-true (nat_le 1 (last_of to agent)) (b ∷ []) [] (ap (nat_le 1) one))
        ∙ (ap (λ xs. map (λ x. x.row) (filter_map (placed_row sheet issuer (b ∷ []) period (zero_cut 64) to) xs)) (append-nil (placed b))
        ∙ rows_from sheet issuer (b ∷ []) period (zero_cut 64) to agent (placed b) 0 rs (last_of_zero 64 agent)
        (λ index. ap (value_at (b ∷ []) (place_of agent index)) one ∙ value_alone version agent index rs))
    by_due false e =
        let none : last_of to agent ≡ 0 = reach ∙ ap (λ due. if due then 1 else 0) e in
        ap charged (cond-false (nat_le 1 (last_of to agent)) (b ∷ []) [] (ap (nat_le 1) none))

-- a first batch by its parts
pub first_is : (b : Batch) → b.seq ≡ 1 → first_batch b.version b.agent b.records ≡ b
first_is b first = sym (ap (λ seq. record b { seq = seq }) first)

-- The rows of a first batch: none before it is due, and then each reading's own, at its last value.
pub rows_alone_are : (sheet : Sheet) (issuer : Issuer) (b : Batch) (period : ℕ)
    → b.seq ≡ 1 → 1 ≤ b.agent → b.agent ≤ 64
    → rows_alone sheet issuer b period
    ≡ (if is_due sheet.base period b then map (row_of_metered sheet issuer period) (metered_in b) else [])
rows_alone_are sheet issuer b period first from upto =
    subst (λ x. rows_alone sheet issuer x period ≡ (if is_due sheet.base period x then map (row_of_metered sheet issuer period) (metered_in x) else []))
    (first_is b first) (rows_of_first b.version sheet issuer b.agent b.records period from upto)
