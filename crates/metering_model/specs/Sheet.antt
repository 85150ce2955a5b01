-- The price sheet and the issuer, as plain data. Texts are UTF-8; prices and rates are in millionths.
use Rattle.std.specs.Prelude.{ℕ, List, ℤ, codes}
pub use Rattle.metering_model.specs.declared.ServiceCategory.{ServiceCategory}
pub use Rattle.metering_model.specs.declared.ServiceCategory.TheVariants.{Compute, Storage, Networking, Databases, Other}
pub use Rattle.metering_model.specs.declared.CommitmentCategory.{CommitmentCategory}
pub use Rattle.metering_model.specs.declared.CommitmentCategory.TheVariants.{Spend, Usage}

-- A price of a SKU from a day on. `per` metered units make one priced unit.
pub record PriceRow : Type 0 where
  pub sku : List ℕ
  pub price_id : List ℕ
  pub from : ℤ
  pub description : List ℕ
  pub service : List ℕ
  pub category : ServiceCategory
  pub consumed_unit : List ℕ
  pub pricing_unit : List ℕ
  pub per : ℕ
  pub list : ℕ
  pub contracted : ℕ

-- A discount on the usage of a SKU. It is bought as the SKU `buy`.
pub record Commitment : Type 0 where
  pub id : List ℕ
  pub sku : List ℕ
  pub buy : List ℕ
  pub category : CommitmentCategory
  pub kind : List ℕ
  pub rate : ℕ

-- The name of a region, for files.
pub record Region : Type 0 where
  pub id : List ℕ
  pub name : List ℕ

-- Rows in the order of the sheet. Period 0 is the base month.
pub record Sheet : Type 0 where
  pub base : ℕ
  pub prices : List PriceRow
  pub commitments : List Commitment
  pub regions : List Region

pub record Issuer : Type 0 where
  pub provider : List ℕ
  pub publisher : List ℕ
  pub issuer : List ℕ
  pub account_id : List ℕ
  pub account_name : List ℕ
  pub currency : List ℕ
  pub other_service : List ℕ

abbrev pub service_category_text : ServiceCategory → List ℕ
service_category_text Compute = codes "Compute"
service_category_text Storage = codes "Storage"
service_category_text Networking = codes "Networking"
service_category_text Databases = codes "Databases"
service_category_text Other = codes "Other"

abbrev pub commitment_category_text : CommitmentCategory → List ℕ
commitment_category_text Spend = codes "Spend"
commitment_category_text Usage = codes "Usage"
