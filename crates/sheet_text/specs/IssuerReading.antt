-- Reading an issuer: its seven texts in order, or the first fault.
use Rattle.std.specs.Prelude.{ℕ, Bool, ◌&&◌, ◌==◌, List, length, Option, Some, None, Result, Ok, Err}
use Rattle.std.specs.List.{list_all}
use Rattle.toml.specs.Data.{Members}
use Rattle.toml.specs.Parse.{parse_document}
use Rattle.metering_model.specs.FirstFailure.{◌>>=◌, holds_or}
use Rattle.metering_model.specs.Sheet.{Issuer}
use Rattle.metering_model.specs.SheetRules.{is_capital}
use Rattle.sheet_text.specs.declared.faults.IssuerFault.{IssuerFault}
use Rattle.sheet_text.specs.declared.faults.IssuerFault.TheVariants as faults
use Rattle.sheet_text.specs.declared.keys.KeyFault.TheVariants as key_faults
use Rattle.sheet_text.specs.declared.keys.KeyFault.TheVariants.{BadValue}
use Rattle.sheet_text.specs.Names.{Key}
use Rattle.sheet_text.specs.declared.names.Key.TheVariants as keys
use Rattle.sheet_text.specs.Keys.{KeyFault, text_under, label_under}

-- three letters A to Z
abbrev pub is_currency : List ℕ → Bool
is_currency t = list_all is_capital t && (length t == 3)

unfoldable pub currency_under : Key → Members → Result (List ℕ) KeyFault
currency_under key table = do
  text ← text_under key table
  _ ← holds_or (is_currency text) (BadValue key)
  Ok text

unfoldable pub issuer_in : Members → Result Issuer KeyFault
issuer_in table = do
  provider ← label_under keys.Provider table
  publisher ← label_under keys.Publisher table
  issuer ← label_under keys.Issuer table
  account_id ← label_under keys.AccountId table
  account_name ← label_under keys.AccountName table
  currency ← currency_under keys.Currency table
  other_service ← label_under keys.OtherService table
  Ok (record {
    provider = provider;
    publisher = publisher;
    issuer = issuer;
    account_id = account_id;
    account_name = account_name;
    currency = currency;
    other_service = other_service;
  })

abbrev pub issuer_fault : KeyFault → IssuerFault
issuer_fault (key_faults.Missing key) = faults.Missing key
issuer_fault (key_faults.BadValue key) = faults.BadValue key
issuer_fault key_faults.OutOfMemory = faults.OutOfMemory

abbrev pub told : Result Issuer KeyFault → Result Issuer IssuerFault
told (Ok issuer) = Ok issuer
told (Err fault) = Err (issuer_fault fault)

abbrev pub issuer_of_document : Option Members → Result Issuer IssuerFault
issuer_of_document None = Err faults.NotToml
issuer_of_document (Some table) = told (issuer_in table)

-- the issuer that a text is, in the TOML that `toml` reads
unfoldable pub issuer_of_text : List ℕ → Result Issuer IssuerFault
issuer_of_text text = issuer_of_document (parse_document text)
