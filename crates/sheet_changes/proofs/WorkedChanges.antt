-- What is said of the sheets of the examples.
use Rattle.std.proofs.Common.{◌≡◌, ℕ, [], ◌∷◌, ◌++◌, length, Option, Some, option_map, ℤ, ◌<ℤ◌, refl, ap, arith, codes, Contains}
use Rattle.std.specs.Prelude.{All}
use Rattle.std.proofs.lemmas.Int.{ints}
use Rattle.std.proofs.lemmas.Option.{same_Some}
use Rattle.std.proofs.lemmas.List.Elements.{All-nil, All-cons}
use Rattle.jiff_core.specs.Calendar.{days_from_civil, day_count, days_of_years, days_of_months}
use Rattle.metering_model.specs.Sheet.{PriceRow, Commitment, Sheet}
use Rattle.metering_model.specs.PriceInForce.{commitment_with}
use Rattle.metering_model.proofs.Samples.{cpu, ops, cpu_plan, cm_1}
use Rattle.sheet_laws.specs.Longer.{NamesAlike}
use Rattle.sheet_changes.specs.Changes.{Alike, AlikeBefore, UnlikeBase, UnlikeCommitment, AreUnlikeRegions, IsLikeness, IsLikenessText, SaysChanges}
use Rattle.sheet_changes.specs.Inner.Compared.{HasSame, StaysOn}
use Rattle.sheet_changes.specs.Regions.{unlike_regions}
use Rattle.sheet_changes.proofs.LikenessLaws.{alike, alike_before}
use Rattle.sheet_changes.proofs.RegionLaws.{each_listed}
use Rattle.sheet_changes.proofs.TwoSheets.{february_1, january_31, february_2, old_sheet, cpu_later, with_later_price, with_split_price, with_another_contract, with_another_rate, with_another_name, with_asia_alone, of_another_base}

abbrev contracted_of : Option PriceRow → Option ℕ
contracted_of o = option_map (λ p. p.contracted) o

abbrev rate_of : Option Commitment → Option ℕ
rate_of o = option_map (λ c. c.rate) o

same_commitments : (new : Sheet) → commitment_with new (codes "cm-1") ≡ Some cm_1 → All (HasSame old_sheet new) old_sheet.commitments
same_commitments new e = All-cons (HasSame old_sheet new) cm_1 [] e (All-nil (HasSame old_sheet new))

another_price : ◌≡◌ {A = ℕ} 90_000 80_000 → ⊥
another_price e = omega (arith, e)

never_before_itself : (a : ℤ) → a <ℤ a → ⊥
never_before_itself a h = grind (arith, ints)

-- ---- of which months the files stay

-- the price of February is another, so that the files of months that end by its first day stay
pub is_alike_before_february : IsLikeness old_sheet with_later_price (AlikeBefore february_1)
is_alike_before_february =
    alike_before old_sheet with_later_price refl (same_commitments with_later_price refl) february_1
    ((cpu_later, (4, omega arith, refl), refl, λ stays. another_price (same_Some 90_000 80_000 (ap contracted_of stays))), all)
  where
    Stays : PriceRow → Type 0
    Stays r = r.from <ℤ february_1 → StaysOn old_sheet with_later_price r.sku r.from

    all : All Stays (cpu ∷ ops ∷ cpu_plan ∷ cpu ∷ cpu_later ∷ ops ∷ cpu_plan ∷ [])
    all =
        All-cons Stays cpu (ops ∷ cpu_plan ∷ cpu ∷ cpu_later ∷ ops ∷ cpu_plan ∷ []) (λ _. refl)
        (All-cons Stays ops (cpu_plan ∷ cpu ∷ cpu_later ∷ ops ∷ cpu_plan ∷ []) (λ _. refl)
        (All-cons Stays cpu_plan (cpu ∷ cpu_later ∷ ops ∷ cpu_plan ∷ []) (λ _. refl)
        (All-cons Stays cpu (cpu_later ∷ ops ∷ cpu_plan ∷ []) (λ _. refl)
        (All-cons Stays cpu_later (ops ∷ cpu_plan ∷ []) (λ before. absurd (never_before_itself february_1 before))
        (All-cons Stays ops (cpu_plan ∷ []) (λ _. refl) (All-cons Stays cpu_plan [] (λ _. refl) (All-nil Stays)))))))

-- a price that is split at a day, and is the same on both sides, changes nothing
pub is_alike_where_split : IsLikeness old_sheet with_split_price Alike
is_alike_where_split = alike old_sheet with_split_price refl (same_commitments with_split_price refl) all
  where
    Stays : PriceRow → Type 0
    Stays r = StaysOn old_sheet with_split_price r.sku r.from

    later : PriceRow
    later = record cpu { from = february_1 }

    all : All Stays (old_sheet.prices ++ with_split_price.prices)
    all =
        All-cons Stays cpu (ops ∷ cpu_plan ∷ cpu ∷ record cpu { from = february_1 } ∷ ops ∷ cpu_plan ∷ []) refl
        (All-cons Stays ops (cpu_plan ∷ cpu ∷ record cpu { from = february_1 } ∷ ops ∷ cpu_plan ∷ []) refl
        (All-cons Stays cpu_plan (cpu ∷ record cpu { from = february_1 } ∷ ops ∷ cpu_plan ∷ []) refl
        (All-cons Stays cpu (record cpu { from = february_1 } ∷ ops ∷ cpu_plan ∷ []) refl
        (All-cons Stays (record cpu { from = february_1 }) (ops ∷ cpu_plan ∷ []) refl
        (All-cons Stays ops (cpu_plan ∷ []) refl (All-cons Stays cpu_plan [] refl (All-nil Stays)))))))

pub is_unlike_commitment : IsLikeness old_sheet with_another_rate (UnlikeCommitment (codes "cm-1"))
is_unlike_commitment = (
  refl,
  record {
    before = [];
    commitment = cm_1;
    after = [];
    placed = refl;
    same = All-nil (HasSame old_sheet with_another_rate);
    named = refl;
    unlike = λ same. let rate : 60_000 ≡ 50_000 = same_Some 60_000 50_000 (ap rate_of same) in omega (arith, rate);
  },
)

pub is_unlike_base : IsLikeness old_sheet of_another_base UnlikeBase
is_unlike_base same = let base : 24_299 ≡ 24_300 = same in omega (arith, base)

-- ---- what is said of it

pub february_is_said : IsLikenessText (AlikeBefore february_1) (codes "alike before 2025-02-01")
unfolding days_from_civil day_count days_of_years days_of_months
february_is_said = (
  codes "2025-02-01",
  record { year = 2025; month = 2; day = 1; year_in = omega arith; month_in = omega arith; day_in = omega arith; joined = refl; number = refl },
  refl,
)

pub a_name_is_listed : unlike_regions old_sheet with_another_name ≡ codes "eu-1" ∷ []
a_name_is_listed = refl

pub both_are_listed : unlike_regions old_sheet with_asia_alone ≡ codes "eu-1" ∷ codes "as-1" ∷ []
both_are_listed = refl

pub none_is_listed : unlike_regions old_sheet with_later_price ≡ []
none_is_listed = refl

-- all of it, where no region is named otherwise
pub all_is_said : SaysChanges old_sheet with_later_price (codes "alike before 2025-02-01" ++ 10 ∷ [])
all_is_said = record {
  likeness = AlikeBefore february_1;
  is_so = is_alike_before_february;
  first = codes "alike before 2025-02-01";
  is_first = february_is_said;
  regions = [];
  are_unlike = record { unlike = All-nil (λ id. ¬ NamesAlike old_sheet with_later_price id); all = each_listed old_sheet with_later_price; once = refl };
  in_order = refl;
  joined = refl;
}

-- ---- false worlds

-- a day too late
pub not_a_day_later : ¬ IsLikeness old_sheet with_later_price (AlikeBefore february_2)
not_a_day_later is = another_price (same_Some 90_000 80_000 (ap contracted_of (is.0.prices (codes "cpu") february_1 cpu (grind (arith, ints)) refl)))

-- a day too early
pub not_a_day_earlier : ¬ IsLikeness old_sheet with_later_price (AlikeBefore january_31)
not_a_day_earlier is = is.1 february_1 (grind (arith, ints)) is_alike_before_february.0

pub not_alike_by_contract : ¬ IsLikeness old_sheet with_another_contract Alike
not_alike_by_contract is =
    another_price (same_Some 90_000 80_000 (ap contracted_of ((is february_2).prices (codes "cpu") february_1 cpu (grind (arith, ints)) refl)))

pub not_alike_by_rate : ¬ IsLikeness old_sheet with_another_rate Alike
not_alike_by_rate is = let rate : 60_000 ≡ 50_000 = same_Some 60_000 50_000 (ap rate_of ((is february_1).commitments (codes "cm-1") cm_1 refl)) in omega (arith, rate)

pub not_alike_by_base : ¬ IsLikeness old_sheet of_another_base Alike
not_alike_by_base is = is_unlike_base (is february_1).base

-- a region's name, though the id is the same
pub not_without_its_region : ¬ AreUnlikeRegions old_sheet with_another_name []
not_without_its_region are = nowhere (are.all (codes "eu-1") other)
  where
    nowhere : Contains [] (codes "eu-1") → ⊥
    nowhere (k, less, is) = absurd (omega arith)

    other : ¬ NamesAlike old_sheet with_another_name (codes "eu-1")
    other same = let long : 10 ≡ 8 = ap length (same_Some (codes "Europe One") (codes "Europe 1") same) in omega (arith, long)
