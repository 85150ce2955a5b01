-- What a node by itself answers where it leaves out a test; and where its sheet lacks a price, or what it has learned does not fit.
use Rattle.std.specs.Prelude.{◌≡◌, List, [], ◌∷◌, codes, refl}
use Rattle.std.specs.Fmt.{digits}
use Rattle.jiff_core.specs.Calendar.{days_from_civil, day_count, days_of_years, days_of_months}
use Rattle.metering_model.specs.NumberText.{worth_of, decimals_of}
use Rattle.metering_model.specs.Batch.{Batch}
use Rattle.metering_model.specs.Cut.{Cut}
use Rattle.metering_model.specs.World.{Decided, Node, new_kept, wake}
use Rattle.metering_model.specs.Deliveries.{handled}
use Rattle.metering_model.specs.Transcript.{file_of}
use Rattle.metering_model.proofs.Samples.{empty_sheet}
use Rattle.process_laws.specs.LocalSteps.{Group, Foreign, Unfit, HasExported, saying, refusing, bare_world, unmoved, taking, exporting}
use Rattle.process_laws.proofs.FalseHistories.{group, b, c, low, high, up_to, bytes_differ}

-- a node that has learned these cuts, and holds these batches
abbrev that_has : List Cut → List Batch → Node
that_has cuts batches = wake (record new_kept { learned = cuts; holding = batches })

-- the group of the examples: one voter, one observer and one agent
abbrev one : Group
one = group 1 1

-- what has learned the high cut of period 0, and what has learned nothing yet
abbrev learned : Node
learned = that_has (high ∷ []) (b ∷ [])

abbrev new : Node
new = wake new_kept

exports_high : exporting one learned 0 ≡ saying (HasExported (up_to high (b ∷ [])))
unfolding days_from_civil day_count days_of_years days_of_months worth_of decimals_of digits
exports_high = refl

-- ---- a node that does not look at the group's name

-- In another group, which is begun alike, the low cut was chosen. A node refuses it by that group's name.
by_its_name_it_is_refused : taking one 1 new (codes "two") (Decided 0 low) ≡ unmoved (refusing Foreign) new
unfolding days_from_civil day_count days_of_years days_of_months worth_of decimals_of digits
by_its_name_it_is_refused = refl

-- A node that handles whatever comes learns it, and exports another file of the period than the node above.
without_the_name_it_is_learned : exporting one (handled (bare_world one) 1 new (Decided 0 low)).node 0 ≡ saying (HasExported (up_to low []))
unfolding days_from_civil day_count days_of_years days_of_months worth_of decimals_of digits
without_the_name_it_is_learned = refl

so_two_groups_make_two_files : file_of (up_to low []) ≡ file_of (up_to high (b ∷ [])) → ⊥
so_two_groups_make_two_files = bytes_differ

-- ---- a sheet without a price

-- a batch whose reading has a price under the one sheet, and none under the other, is exported under the one alone
with_a_price_it_is_exported : exporting one (that_has (high ∷ []) (c ∷ [])) 0 ≡ saying (HasExported (up_to high (c ∷ [])))
unfolding days_from_civil day_count days_of_years days_of_months worth_of decimals_of digits
with_a_price_it_is_exported = refl

without_a_price_it_is_unfit : exporting (record one { sheet = empty_sheet }) (that_has (high ∷ []) (c ∷ [])) 0 ≡ refusing Unfit
unfolding days_from_civil day_count days_of_years days_of_months worth_of decimals_of digits
without_a_price_it_is_unfit = refl

-- ---- cuts that go back

abbrev went_back : Node
went_back = that_has (high ∷ low ∷ high ∷ []) (b ∷ [])

-- the period before it is exported
before_it_goes_back : exporting one went_back 0 ≡ saying (HasExported (up_to high (b ∷ [])))
unfolding days_from_civil day_count days_of_years days_of_months worth_of decimals_of digits
before_it_goes_back = refl

-- the period whose cut goes back is not
where_it_goes_back : exporting one went_back 1 ≡ refusing Unfit
unfolding days_from_civil day_count days_of_years days_of_months worth_of decimals_of digits
where_it_goes_back = refl

-- Nor is the next one, though its own cut grows again: the batch would be charged a second time.
behind_where_it_goes_back : exporting one went_back 2 ≡ refusing Unfit
unfolding days_from_civil day_count days_of_years days_of_months worth_of decimals_of digits
behind_where_it_goes_back = refl
