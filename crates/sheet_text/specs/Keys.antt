-- What stands under the keys of a TOML table, each in the form that it must have.
use Rattle.std.specs.Prelude.{ℕ, Bool, ◌&&◌, nat_le, List, [], ◌∷◌, length, Option, Some, None, Result, Ok, ok_or, ℤ, pos, int_le, unsigned_abs, find}
use Rattle.std.specs.Result.{result_ok}
use Rattle.metering_model.specs.Limits.{first_base_month, last_base_month, most_sheet_rows, most_units}
use Rattle.toml.specs.Data.{Data, Items, no_items, item, Members, as_str, as_integer, as_array, as_table, get_member}
pub use Rattle.sheet_text.specs.declared.keys.KeyFault.{KeyFault}
use Rattle.sheet_text.specs.declared.keys.KeyFault.TheVariants.{Missing, BadValue}
use Rattle.sheet_text.specs.Names.{Key, key_name}
use Rattle.metering_model.specs.FirstFailure.{◌>>=◌, holds_or}
use Rattle.metering_model.specs.NumberText.{price_in}
use Rattle.metering_model.specs.Dates.{day_in, month_in}
use Rattle.metering_model.specs.BatchReading.{is_same, with_first}
use Rattle.metering_model.specs.declared.ServiceCategory.{ServiceCategory}
use Rattle.metering_model.specs.declared.ServiceCategory.TheVariants.{Compute, Storage, Networking, Databases, Other}
use Rattle.metering_model.specs.declared.CommitmentCategory.{CommitmentCategory}
use Rattle.metering_model.specs.declared.CommitmentCategory.TheVariants.{Spend, Usage}
use Rattle.metering_model.specs.Sheet.{service_category_text, commitment_category_text}
use Rattle.metering_model.specs.SheetRules.{is_label}

-- what stands under the key, if the key is there
unfoldable pub value_under : Key → Members → Result Data KeyFault
value_under key table = ok_or (get_member (key_name key) table) (Missing key)

-- the string under the key
unfoldable pub text_under : Key → Members → Result (List ℕ) KeyFault
text_under key table = do
  value ← value_under key table
  ok_or (as_str value) (BadValue key)

unfoldable pub label_under : Key → Members → Result (List ℕ) KeyFault
label_under key table = do
  text ← text_under key table
  _ ← holds_or (is_label text) (BadValue key)
  Ok text

-- the day that a string YYYY-MM-DD names
unfoldable pub day_under : Key → Members → Result ℤ KeyFault
day_under key table = do
  text ← text_under key table
  ok_or (day_in text) (BadValue key)

abbrev pub is_base_month : ℕ → Bool
is_base_month m = nat_le first_base_month m && nat_le m last_base_month

-- the month that a string YYYY-MM names, from 2000-01 to 2100-12
unfoldable pub base_under : Key → Members → Result ℕ KeyFault
base_under key table = do
  text ← text_under key table
  month ← ok_or (month_in text) (BadValue key)
  _ ← holds_or (is_base_month month) (BadValue key)
  Ok month

-- the price that a string spells, in millionths
unfoldable pub price_under : Key → Members → Result ℕ KeyFault
price_under key table = do
  text ← text_under key table
  ok_or (result_ok (price_in text)) (BadValue key)

-- an integer of TOML, from 1 to 1,000,000,000
unfoldable pub per_under : Key → Members → Result ℕ KeyFault
per_under key table = do
  value ← value_under key table
  number ← ok_or (as_integer value) (BadValue key)
  _ ← holds_or (int_le (pos 1) number && int_le number (pos most_units)) (BadValue key)
  Ok (unsigned_abs number)

abbrev pub service_categories : List ServiceCategory
service_categories = Compute ∷ Storage ∷ Networking ∷ Databases ∷ Other ∷ []

-- the category of which it is the text
abbrev pub service_category_in : List ℕ → Option ServiceCategory
service_category_in text = find (λ c. is_same text (service_category_text c)) service_categories

unfoldable pub service_category_under : Key → Members → Result ServiceCategory KeyFault
service_category_under key table = do
  text ← text_under key table
  ok_or (service_category_in text) (BadValue key)

abbrev pub commitment_categories : List CommitmentCategory
commitment_categories = Spend ∷ Usage ∷ []

abbrev pub commitment_category_in : List ℕ → Option CommitmentCategory
commitment_category_in text = find (λ c. is_same text (commitment_category_text c)) commitment_categories

unfoldable pub commitment_category_under : Key → Members → Result CommitmentCategory KeyFault
commitment_category_under key table = do
  text ← text_under key table
  ok_or (commitment_category_in text) (BadValue key)

-- the tables of an array that has nothing but tables
abbrev pub tables_in : Items → Option (List Members)
tables_in no_items = Some []
tables_in (item value values) = with_first (as_table value) (tables_in values)

-- an array of at most 10,000 tables
unfoldable pub rows_in : Key → Data → Result (List Members) KeyFault
rows_in key value = do
  items ← ok_or (as_array value) (BadValue key)
  tables ← ok_or (tables_in items) (BadValue key)
  _ ← holds_or (nat_le (length tables) most_sheet_rows) (BadValue key)
  Ok tables

-- the rows under the key; a key that is not there has none
abbrev pub rows_or_none : Key → Option Data → Result (List Members) KeyFault
rows_or_none key None = Ok []
rows_or_none key (Some value) = rows_in key value

unfoldable pub rows_under : Key → Members → Result (List Members) KeyFault
rows_under key table = rows_or_none key (get_member (key_name key) table)
