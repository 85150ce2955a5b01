-- One more event is found, or none.
use Rattle.std.proofs.Common.{◌≡◌, ℕ, map, suc, ◌<◌, ◌≤◌, cond, List, [], ◌∷◌, ◌++◌, length, Result, Ok, Err, refl, sym, ap, ◌∙◌, arith, append_assoc}
use Rattle.metering_model.specs.Batch.{is_empty}
use Rattle.metering_model.specs.FirstFailure.{◌>>=◌}
use Rattle.metering_model.specs.Schedule.{Planned}
use Rattle.input_sections.specs.declared.faults.ScheduleFault.{ScheduleFault}
use Rattle.input_sections.specs.Sections.{Unread, left}
use Rattle.schedule_reader.specs.Schedules.{event_in, events_in}
use Rattle.schedule_reader.specs.Inner.Found.{in_front}

pub none_found : (r : Result (List Planned) ScheduleFault) → r ≡ in_front [] r
none_found (Ok rest) = refl
none_found (Err fault) = refl

one_more : (found : List Planned) (e : Planned) (r : Result (List Planned) ScheduleFault)
    → in_front found (r >>= λ (rest : List Planned). Ok (e ∷ rest)) ≡ in_front (found ++ e ∷ []) r
one_more found e (Ok rest) = ap Ok (sym (append_assoc found (e ∷ []) rest))
one_more found e (Err fault) = refl

pub nonempty : {A : Type 0} (t : List ℕ) (x y : A) → 0 < length t → cond (is_empty t) x y ≡ y
nonempty [] x y some = absurd (omega arith)
nonempty (c ∷ cs) x y some = refl

pub empty : {A : Type 0} (t : List ℕ) (x y : A) → length t ≤ 0 → cond (is_empty t) x y ≡ x
empty [] x y none = refl
empty (c ∷ cs) x y none = absurd (omega arith)

pub found_next : (most : ℕ) (u v : Unread) (e : Planned) (found : List Planned) → 0 < length (left u) → event_in u ≡ Ok (e, v)
    → in_front found (events_in (suc most) u) ≡ in_front (found ++ e ∷ []) (events_in most v)
unfolding events_in
found_next most u v e found some is =
    ap (in_front found) (nonempty (left u) _ _ some ∙ ap (λ r. r >>= λ (e : Planned × Unread). events_in most e.1 >>= λ (es : List Planned). Ok (e.0 ∷ es)) is)
    ∙ one_more found e (events_in most v)

pub found_fault : (most : ℕ) (u : Unread) (fault : ScheduleFault) (found : List Planned) → 0 < length (left u) → event_in u ≡ Err fault
    → in_front found (events_in (suc most) u) ≡ Err fault
unfolding events_in
found_fault most u fault found some is =
    ap (in_front found) (nonempty (left u) _ _ some ∙ ap (λ r. r >>= λ (e : Planned × Unread). events_in most e.1 >>= λ (es : List Planned). Ok (e.0 ∷ es)) is)

pub found_all : (most : ℕ) (u : Unread) (found : List Planned) → length (left u) ≤ 0 → in_front found (events_in (suc most) u) ≡ Ok (found ++ [])
unfolding events_in
found_all most u found none = ap (in_front found) (empty (left u) _ _ none)

none_behind : (found : List Planned) → found ++ [] ≡ found
none_behind [] = refl
none_behind (e ∷ es) = ap (λ t. e ∷ t) (none_behind es)

pub found_whole : (most : ℕ) (u : Unread) (found : List Planned) → length (left u) ≤ 0 → in_front found (events_in (suc most) u) ≡ Ok found
found_whole most u found none = found_all most u found none ∙ ap Ok (none_behind found)

pub found_end : (u : Unread) (found : List Planned) → in_front found (events_in 0 u) ≡ Ok found
unfolding events_in
found_end u found = ap Ok (none_behind found)

pub map_more : {A B : Type 0} (f : A → B) (xs : List A) (x : A) → map f (xs ++ x ∷ []) ≡ map f xs ++ f x ∷ []
map_more f [] x = refl
map_more f (y ∷ ys) x = ap (λ t. f y ∷ t) (map_more f ys x)
