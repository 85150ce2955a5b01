-- The issuer of the worked examples.
use Rattle.std.specs.Prelude.{codes}
use Rattle.metering_model.specs.Sheet.{Issuer}

abbrev pub sample_issuer : Issuer
sample_issuer = record {
  provider = codes "Sample Cloud";
  publisher = codes "Sample Cloud";
  issuer = codes "Sample Cloud Ltd";
  account_id = codes "A-100";
  account_name = codes "Payer";
  currency = codes "USD";
  other_service = codes "Billing";
}
