-- What is told of an input, batch by batch.
use Rattle.std.proofs.Common.{◌≡◌, ◌≤◌, ℕ, List, [], ◌∷◌, ◌++◌, length, drop, map, Result, Ok, Err, refl, sym, ap, ap₂, subst, ◌∙◌, append_assoc, append-nil}
use Rattle.std.specs.Prelude.{OnOk}
use Rattle.metering_model.specs.Sheet.{Sheet, Issuer}
use Rattle.metering_model.specs.RatedAlone.{world_before}
use Rattle.metering_model.specs.Step.{play, step}
use Rattle.metering_model.specs.World.{World}
use Rattle.input_sections.specs.declared.faults.ScheduleFault.{ScheduleFault}
use Rattle.input_sections.specs.RateInput.{RateInput, rate_input_in}
use Rattle.fault_lines.specs.Ahead.{ahead_of_all}
use Rattle.fault_lines.specs.Told.{said_of_fault}
use Rattle.fault_lines.specs.UnknownKeys.{unknown_on}
use Rattle.schedule_writer.specs.Checks.{journaled_of, said_of_input, told_of_answer, told_of_batches, warned_of_input}
use Rattle.schedule_writer.specs.Inputs.{Item, Offers, Closes, Offered, batches_of, items_in, items_of}
use Rattle.schedule_writer.specs.Refusals.{answer_to, journal_of}
use Rattle.schedule_writer.proofs.ItemLaws.{batches_split}
use Rattle.schedule_writer.proofs.ScheduleLaws.{items_behind}

-- ---- in turn

-- what is told of batches, and of those behind them
pub told_behind : (input : List ℕ) (w : World) (bs cs : List Offered)
    → told_of_batches input w (bs ++ cs) ≡ told_of_batches input w bs ++ told_of_batches input (play w (map journal_of bs)).1 cs
told_behind input w [] cs = refl
told_behind input w (b ∷ bs) cs =
    ap (λ t. told_of_answer input w b (answer_to w b.text) ++ t) (told_behind input (step w (journal_of b)).1 bs cs)
    ∙ sym (append_assoc (told_of_answer input w b (answer_to w b.text)) (told_of_batches input (step w (journal_of b)).1 bs)
    (told_of_batches input (play (step w (journal_of b)).1 (map journal_of bs)).1 cs))

-- what was told with one item more, and what is left behind it
pub told_more : (input all old new : List ℕ) (w v : World) (i : Item) (is : List Item) → old ++ told_of_batches input w (batches_of (i ∷ is)) ≡ all
    → new ≡ old ++ told_of_batches input w (batches_of (i ∷ [])) → v ≡ (play w (map journal_of (batches_of (i ∷ [])))).1
    → new ++ told_of_batches input v (batches_of is) ≡ all
told_more input all old new w v i is so_far more after =
    ap₂ (λ t u. t ++ told_of_batches input u (batches_of is)) more after
    ∙ (append_assoc old (told_of_batches input w (batches_of (i ∷ []))) _
    ∙ (ap (λ t. old ++ t) (sym (told_behind input w (batches_of (i ∷ [])) (batches_of is)) ∙ ap (told_of_batches input w) (sym (batches_split i is))) ∙ so_far))

-- one item
pub told_one : (input old new : List ℕ) (w : World) (i : Item) (b : Offered) → Offers b ≡ i → new ≡ old ++ told_of_answer input w b (answer_to w b.text)
    → new ≡ old ++ told_of_batches input w (batches_of (i ∷ []))
told_one input old new w i b is told =
    told ∙ (ap (λ t. old ++ t) (sym (append-nil (told_of_answer input w b (answer_to w b.text)))) ∙ ap (λ x. old ++ told_of_batches input w (batches_of (x ∷ []))) is)

pub world_one : (w v : World) (i : Item) (b : Offered) → Offers b ≡ i → v ≡ (step w (journal_of b)).1 → v ≡ (play w (map journal_of (batches_of (i ∷ [])))).1
world_one w v i b is after = after ∙ ap (λ x. (play w (map journal_of (batches_of (x ∷ [])))).1) is

pub told_none : (input told : List ℕ) (w : World) (i : Item) → Closes ≡ i → told ≡ told ++ told_of_batches input w (batches_of (i ∷ []))
told_none input told w i is = sym (append-nil told) ∙ ap (λ x. told ++ told_of_batches input w (batches_of (x ∷ []))) is

pub world_none : (w : World) (i : Item) → Closes ≡ i → w ≡ (play w (map journal_of (batches_of (i ∷ [])))).1
world_none w i is = ap (λ x. (play w (map journal_of (batches_of (x ∷ [])))).1) is

-- ---- the whole

pub said_of_read : (input : List ℕ) (given : RateInput) → rate_input_in input ≡ Ok given
    → said_of_input input ≡ told_of_batches input (world_before given.sheet given.issuer) (batches_of (items_of input given))
unfolding said_of_input
said_of_read input given is = ap by_input is
  where
    by_input : Result RateInput ScheduleFault → List ℕ
    by_input r = elim r [ Ok given ↦ told_of_batches input (world_before given.sheet given.issuer) (batches_of (items_of input given)) | Err fault ↦ said_of_fault input fault ]

pub said_of_given : (input : List ℕ) (from : ℕ) (sheet : Sheet) (issuer : Issuer) (w : World) → from ≤ length input
    → rate_input_in input ≡ Ok (record { sheet = sheet; issuer = issuer; batch = drop from input }) → w ≡ world_before sheet issuer
    → told_of_batches input w (batches_of (items_in (length input) input from)) ≡ said_of_input input
said_of_given input from sheet issuer w within is before =
    ap₂ (λ v is. told_of_batches input v (batches_of is)) before (items_behind input from sheet issuer within)
    ∙ sym (said_of_read input (record { sheet = sheet; issuer = issuer; batch = drop from input }) is)

pub warned_of_read : (input : List ℕ) (given : RateInput) → rate_input_in input ≡ Ok given
    → warned_of_input input ≡ unknown_on 1 input ++ ahead_of_all [] (journaled_of input (world_before given.sheet given.issuer) (batches_of (items_of input given)))
unfolding warned_of_input
warned_of_read input given is = ap by_input is
  where
    by_input : Result RateInput ScheduleFault → List ℕ
    by_input r =
        elim r [
          | Ok given ↦ unknown_on 1 input ++ ahead_of_all [] (journaled_of input (world_before given.sheet given.issuer) (batches_of (items_of input given)))
          | Err fault ↦ []
        ]

pub warned_of_given : (input : List ℕ) (from : ℕ) (sheet : Sheet) (issuer : Issuer) → from ≤ length input
    → rate_input_in input ≡ Ok (record { sheet = sheet; issuer = issuer; batch = drop from input })
    → unknown_on 1 input ++ ahead_of_all [] (journaled_of input (world_before sheet issuer) (batches_of (items_in (length input) input from))) ≡ warned_of_input input
warned_of_given input from sheet issuer within is =
    ap (λ is. unknown_on 1 input ++ ahead_of_all [] (journaled_of input (world_before sheet issuer) (batches_of is))) (items_behind input from sheet issuer within)
    ∙ sym (warned_of_read input (record { sheet = sheet; issuer = issuer; batch = drop from input }) is)

-- what was put behind a text in two parts
pub in_two_parts : (told one other first both all : List ℕ) → first ≡ told ++ one → both ≡ first ++ other → one ++ other ≡ all → both ≡ told ++ all
in_two_parts told one other first both all first_is both_is all_is =
    both_is ∙ (ap (λ t. t ++ other) first_is ∙ (append_assoc told one other ∙ ap (λ t. told ++ t) all_is))

-- ---- what holds of a call that ends well

pub both_on_ok : {T E P Q R : Type 0} (result : Result T E) → (P → Q → R) → OnOk result P → OnOk result Q → OnOk result R
both_on_ok (Ok done) f p q = f p q
both_on_ok (Err fault) f p q = tt

pub on_ok : {T E P Q : Type 0} (result : Result T E) → (P → Q) → OnOk result P → OnOk result Q
on_ok (Ok done) f p = f p
on_ok (Err fault) f p = tt

pub on_any : {T E P : Type 0} (result : Result T E) → P → OnOk result P
on_any (Ok done) p = p
on_any (Err fault) p = tt

pub on_error : {T E : Type 0} (P : Type 0) (result : Result T E) (fault : E) → result ≡ Err fault → OnOk result P
on_error {T} {E} P result fault is = subst (λ (r : Result T E). OnOk r P) (sym is) tt

pub on_same : {T E X : Type 0} (one other : Result T E) (x y : X) (P : X → Type 0) → one ≡ other → x ≡ y → OnOk other (P y) → OnOk one (P x)
on_same {T} {E} one other x y P is same so = subst (λ (r : Result T E). OnOk r (P x)) (sym is) (subst (λ z. OnOk other (P z)) (sym same) so)
