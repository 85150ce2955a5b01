-- Issuers, read from lines of TOML. All values are different, so that no key can be taken for another.
use Rattle.std.proofs.Common.{◌≡◌, ℕ, List, [], ◌∷◌, ◌++◌, Result, Ok, Err, refl, codes, map, replicate, take, drop}
use Rattle.metering_model.specs.Sheet.{Issuer}
use Rattle.metering_model.specs.Schedule.{lines_text}
use Rattle.metering_model.proofs.Samples.{issuer_1_lines}
use Rattle.sheet_text.specs.declared.faults.IssuerFault.{IssuerFault}
use Rattle.sheet_text.specs.declared.faults.IssuerFault.TheVariants.{NotToml, Missing, BadValue}
use Rattle.sheet_text.specs.declared.names.Key.TheVariants as keys
use Rattle.sheet_text.specs.Names.{key_name}
use Rattle.sheet_text.specs.Keys.{value_under, text_under, label_under}
use Rattle.sheet_text.specs.IssuerReading.{currency_under, issuer_in, issuer_of_text}
use Rattle.sheet_text.specs.Samples.{sample_issuer}
use Rattle.sheet_text.proofs.WorkedRows.{without}
use Rattle.sheet_text.proofs.WorkedSteps.{scan_numeral, skip_ws, skip_from, special, body, one_line, quoted, simple_key, key_after, underscore_fits}
use Rattle.sheet_text.proofs.WorkedSteps.{decimal_number, plain_number, number, word_value, word_len, unquoted, along_header, along_dots, at_key}
use Rattle.sheet_text.proofs.WorkedSteps.{define, key_equals, val, atom, expression, line, lines, skip_bom, parse_document}

abbrev issuer_lines : List (List ℕ)
issuer_lines =
    codes "provider = \"Sample Cloud\"" ∷
    codes "publisher = \"Sample Books\"" ∷
    codes "issuer = \"Sample Invoices Ltd\"" ∷
    codes "account_id = \"A-200\"" ∷
    codes "account_name = \"Payer\"" ∷
    codes "currency = \"EUR\"" ∷
    codes "other_service = \"Billing\"" ∷
    []

abbrev issuer_of : List (List ℕ) → Result Issuer IssuerFault
issuer_of ls = issuer_of_text (lines_text ls)

each_value_of_an_issuer_stands_under_its_key : issuer_of issuer_lines ≡ Ok (record {
  provider = codes "Sample Cloud";
  publisher = codes "Sample Books";
  issuer = codes "Sample Invoices Ltd";
  account_id = codes "A-200";
  account_name = codes "Payer";
  currency = codes "EUR";
  other_service = codes "Billing";
})
unfolding parse_document lines line expression skip_bom skip_from skip_ws key_equals key_after simple_key val atom quoted one_line body special define
    along_header along_dots at_key unquoted word_len word_value number underscore_fits plain_number decimal_number scan_numeral key_name value_under
    text_under label_under currency_under issuer_in issuer_of_text
each_value_of_an_issuer_stands_under_its_key = refl

the_sample_is_read_from_its_lines : issuer_of issuer_1_lines ≡ Ok sample_issuer
unfolding parse_document lines line expression skip_bom skip_from skip_ws key_equals key_after simple_key val atom quoted one_line body special define
    along_header along_dots at_key unquoted word_len word_value number underscore_fits plain_number decimal_number scan_numeral key_name value_under
    text_under label_under currency_under issuer_in issuer_of_text
the_sample_is_read_from_its_lines = refl

each_key_of_an_issuer_is_missed_by_its_name : map (λ n. issuer_of (without n issuer_lines)) (0 ∷ 1 ∷ 2 ∷ 3 ∷ 4 ∷ 5 ∷ 6 ∷ []) ≡ map (λ key. Err (Missing key)) (keys.Provider ∷ keys.Publisher ∷ keys.Issuer ∷ keys.AccountId ∷ keys.AccountName ∷ keys.Currency ∷ keys.OtherService ∷ [])
unfolding parse_document lines line expression skip_bom skip_from skip_ws key_equals key_after simple_key val atom quoted one_line body special define
    along_header along_dots at_key unquoted word_len word_value number underscore_fits plain_number decimal_number scan_numeral key_name value_under
    text_under label_under currency_under issuer_in issuer_of_text
each_key_of_an_issuer_is_missed_by_its_name = refl

-- the issuer of the lines in which this one stands in place of the one that so many stand before
abbrev issuer_with : ℕ → List ℕ → Result Issuer IssuerFault
issuer_with n line = issuer_of (line ∷ without n issuer_lines)

each_value_that_is_no_text :
    issuer_with 0 (codes "provider = 7") ∷ issuer_with 1 (codes "publisher = 7") ∷ issuer_with 2 (codes "issuer = 7") ∷ issuer_with 3 (codes "account_id = 7") ∷ issuer_with 4 (codes "account_name = 7") ∷ issuer_with 5 (codes "currency = 7") ∷ issuer_with 6 (codes "other_service = 7") ∷ []
    ≡ map (λ key. Err (BadValue key)) (keys.Provider ∷ keys.Publisher ∷ keys.Issuer ∷ keys.AccountId ∷ keys.AccountName ∷ keys.Currency ∷ keys.OtherService ∷ [])
unfolding parse_document lines line expression skip_bom skip_from skip_ws key_equals key_after simple_key val atom quoted one_line body special define
    along_header along_dots at_key unquoted word_len word_value number underscore_fits plain_number decimal_number scan_numeral key_name value_under
    text_under label_under currency_under issuer_in issuer_of_text
each_value_that_is_no_text = refl

each_empty_text :
    issuer_with 0 (codes "provider = \"\"") ∷ issuer_with 1 (codes "publisher = \"\"") ∷ issuer_with 2 (codes "issuer = \"\"") ∷ issuer_with 3
    (codes "account_id = \"\"") ∷ issuer_with 4 (codes "account_name = \"\"") ∷ issuer_with 5 (codes "currency = \"\"") ∷ issuer_with 6
    (codes "other_service = \"\"") ∷ []
    ≡ map (λ key. Err (BadValue key)) (keys.Provider ∷ keys.Publisher ∷ keys.Issuer ∷ keys.AccountId ∷ keys.AccountName ∷ keys.Currency ∷ keys.OtherService ∷ [])
unfolding parse_document lines line expression skip_bom skip_from skip_ws key_equals key_after simple_key val atom quoted one_line body special define
    along_header along_dots at_key unquoted word_len word_value number underscore_fits plain_number decimal_number scan_numeral key_name value_under
    text_under label_under currency_under issuer_in issuer_of_text
each_empty_text = refl

abbrev currency_with : List ℕ → Result Issuer IssuerFault
currency_with text = issuer_with 5 (codes "currency = \"" ++ text ++ codes "\"")

no_currencies : map currency_with (codes "EU" ∷ codes "EURO" ∷ codes "eur" ∷ codes "E1R" ∷ []) ≡ replicate 4 (Err (BadValue keys.Currency))
unfolding parse_document lines line expression skip_bom skip_from skip_ws key_equals key_after simple_key val atom quoted one_line body special define
    along_header along_dots at_key unquoted word_len word_value number underscore_fits plain_number decimal_number scan_numeral key_name value_under
    text_under label_under currency_under issuer_in issuer_of_text
no_currencies = refl

-- the name comes before the currency, wherever they stand in the text
the_first_of_two_faults : issuer_of (codes "currency = \"EURO\"" ∷ take 4 issuer_lines ++ drop 6 issuer_lines) ≡ Err (Missing keys.AccountName)
unfolding parse_document lines line expression skip_bom skip_from skip_ws key_equals key_after simple_key val atom quoted one_line body special define
    along_header along_dots at_key unquoted word_len word_value number underscore_fits plain_number decimal_number scan_numeral key_name value_under
    text_under label_under currency_under issuer_in issuer_of_text
the_first_of_two_faults = refl

a_key_twice : issuer_of (codes "issuer = \"Sample Invoices Ltd\"" ∷ issuer_lines) ≡ Err NotToml
unfolding parse_document lines line expression skip_bom skip_from skip_ws key_equals key_after simple_key val atom quoted one_line body special define
    along_header along_dots at_key unquoted word_len word_value number underscore_fits plain_number decimal_number scan_numeral key_name value_under
    text_under label_under currency_under issuer_in issuer_of_text
a_key_twice = refl

no_text : issuer_of [] ≡ Err (Missing keys.Provider)
unfolding parse_document lines line expression skip_bom skip_from skip_ws key_equals key_after simple_key val atom quoted one_line body special define
    along_header along_dots at_key unquoted word_len word_value number underscore_fits plain_number decimal_number scan_numeral key_name value_under
    text_under label_under currency_under issuer_in issuer_of_text
no_text = refl
