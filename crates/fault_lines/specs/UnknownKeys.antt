-- Keys of a sheet or of an issuer that no reader takes, and the line of the input at which each is told.
use Rattle.std.specs.Prelude.{◌≡◌, ℕ, ◌+◌, Bool, true, not, ◌&&◌, ◌||◌, ◌==◌, nat_le, nat_lt, if◌then◌else◌, List, [], ◌∷◌, ◌++◌, length, map, take, filter, Option, Some, None, Result, Ok, Err, codes}
use Rattle.std.specs.List.{flat_map, list_any, position}
use Rattle.std.specs.Str.{is_utf8}
use Rattle.toml.specs.Data.{Members, no_members, member, get_member}
use Rattle.toml.specs.Parse.{parse_document}
use Rattle.metering_model.specs.BatchReading.{is_same, lines_in}
use Rattle.metering_model.specs.Limits.{most_sheet_lines, most_issuer_lines}
use Rattle.sheet_text.specs.Keys.{rows_under}
use Rattle.sheet_text.specs.Names.{key_name}
use Rattle.sheet_text.specs.declared.keys.KeyFault.{KeyFault}
use Rattle.sheet_text.specs.declared.names.Key.{Key}
use Rattle.sheet_text.specs.declared.names.Key.TheVariants as keys
use Rattle.input_sections.specs.declared.faults.ScheduleCode.TheVariants as code
use Rattle.input_sections.specs.declared.faults.ScheduleFault.{ScheduleFault}
use Rattle.input_sections.specs.Sections.{Section, Unread, section_in}
use Rattle.fault_lines.specs.TableLines.{from_first, is_blank, opens_table}
use Rattle.fault_lines.specs.Told.{from_line, told_at}

-- ---- the keys that no reader takes

-- A key, and the name of the table in whose rows it stands: the empty text for the top.
pub record UnknownKey : Type 0 where
  pub table : List ℕ
  pub name : List ℕ

-- so many of a section are told
abbrev pub most_unknown_keys : ℕ
most_unknown_keys = 100

abbrev pub sheet_keys : List Key
sheet_keys = keys.Base ∷ keys.Price ∷ keys.Commitment ∷ keys.Region ∷ []

abbrev pub price_keys : List Key
price_keys =
    keys.Sku ∷ keys.PriceId ∷ keys.From ∷ keys.Description ∷ keys.Service ∷ keys.Category ∷ keys.ConsumedUnit ∷ keys.PricingUnit ∷ keys.Per ∷ keys.List
    ∷ keys.Contracted ∷ []

abbrev pub commitment_keys : List Key
commitment_keys = keys.Id ∷ keys.Sku ∷ keys.Buy ∷ keys.Category ∷ keys.Kind ∷ keys.Rate ∷ []

abbrev pub region_keys : List Key
region_keys = keys.Id ∷ keys.Name ∷ []

abbrev pub issuer_keys : List Key
issuer_keys = keys.Provider ∷ keys.Publisher ∷ keys.Issuer ∷ keys.AccountId ∷ keys.AccountName ∷ keys.Currency ∷ keys.OtherService ∷ []

abbrev pub is_taken : List Key → List ℕ → Bool
is_taken taken name = list_any (λ k. is_same name (key_name k)) taken

-- the same stands under each of these keys, or nothing, whatever stands under others
abbrev pub AreAlikeIn : List Key → Members → Members → Type 0
AreAlikeIn taken ms ns = (k : Key) → is_taken taken (key_name k) ≡ true → get_member (key_name k) ms ≡ get_member (key_name k) ns

abbrev pub is_key : List ℕ → List ℕ → UnknownKey → Bool
is_key table name k = is_same table k.table && is_same name k.name

-- those that were found, and this key too where no reader takes it, it is none of them, and there is room
abbrev pub with_key : List Key → List ℕ → List UnknownKey → List ℕ → List UnknownKey
with_key taken table found name =
    if is_taken taken name || list_any (is_key table name) found || nat_le most_unknown_keys (length found) then found
    else found ++ record { table = table; name = name } ∷ []

-- with the keys of a table, in the order of their bytes, and with those of each row
unfoldable pub with_table : List Key → List ℕ → List UnknownKey → Members → List UnknownKey
with_table taken table found no_members = found
with_table taken table found (member name d ms) = with_table taken table (with_key taken table found name) ms

unfoldable pub with_rows : List Key → List ℕ → List UnknownKey → List Members → List UnknownKey
with_rows taken table found [] = found
with_rows taken table found (row ∷ rows) = with_rows taken table (with_table taken table found row) rows

-- the rows under a key; none where what stands there is no array of tables
abbrev pub rows_or_none : Result (List Members) KeyFault → List Members
rows_or_none (Ok rows) = rows
rows_or_none (Err fault) = []

abbrev pub with_rows_under : Key → List Key → List UnknownKey → Members → List UnknownKey
with_rows_under key taken found ms = with_rows taken (key_name key) found (rows_or_none (rows_under key ms))

-- of a sheet: at the top, then in prices, commitments and regions
unfoldable pub unknown_in_sheet : Members → List UnknownKey
unknown_in_sheet ms =
    let top = with_table sheet_keys [] [] ms in
    let prices = with_rows_under keys.Price price_keys top ms in
    let commitments = with_rows_under keys.Commitment commitment_keys prices ms in
    with_rows_under keys.Region region_keys commitments ms

unfoldable pub unknown_in_issuer : Members → List UnknownKey
unknown_in_issuer ms = with_table issuer_keys [] [] ms

-- ---- the line of a key

-- a blank, `[`, or a quotation mark
abbrev pub stands_before_key : ℕ → Bool
stands_before_key c = is_blank c || (c == 91) || (c == 34) || (c == 39)

-- a letter, a digit, `-` or `_`
abbrev pub is_of_key : ℕ → Bool
is_of_key c = (nat_le 97 c && nat_le c 122) || (nat_le 65 c && nat_le c 90) || (nat_le 48 c && nat_le c 57) || (c == 45) || (c == 95)

-- what stands before the first byte for which this holds
abbrev pub up_to_first : (ℕ → Bool) → List ℕ → List ℕ
up_to_first test text = elim (position test text) [ Some at ↦ take at text | None ↦ text ]

-- what a line begins with behind blanks, `[` and quotation marks, up to what is no letter, digit, `-` or `_`
abbrev pub first_word : List ℕ → List ℕ
first_word line = up_to_first (λ c. not (is_of_key c)) (from_first (λ c. not (stands_before_key c)) line)

-- the table that is open below a line, and the one in which the line's own word is a key
abbrev pub table_below : List ℕ → List ℕ → List ℕ
table_below table line = if opens_table line then first_word line else table

abbrev pub table_of : List ℕ → List ℕ → List ℕ
table_of table line = if opens_table line then [] else table

abbrev pub has_key : List ℕ → List ℕ → UnknownKey → Bool
has_key table line k = is_key (table_of table line) (first_word line) k

-- those of the keys that no line has
unfoldable pub keys_left : List ℕ → List UnknownKey → List (List ℕ) → List UnknownKey
keys_left table ks [] = ks
keys_left table ks (line ∷ lines) = keys_left (table_below table line) (filter (λ k. not (has_key table line k)) ks) lines

-- ---- what is told of them

-- a line feed would break the line, so a question mark stands in place of each byte below 32, and of 127
abbrev pub shown : ℕ → ℕ
shown c = if nat_lt c 32 || (c == 127) then 63 else c

abbrev pub told_unknown : ℕ → UnknownKey → List ℕ
told_unknown n k = told_at n (codes "unknown " ++ map shown k.name)

-- each of the keys at the first line that has it, where the first of the lines is that of this number
unfoldable pub told_along : ℕ → List ℕ → List UnknownKey → List (List ℕ) → List ℕ
told_along n table ks [] = []
told_along n table ks (line ∷ lines) =
    flat_map (told_unknown n) (filter (has_key table line) ks)
    ++ told_along (n + 1) (table_below table line) (filter (λ k. not (has_key table line k)) ks) lines

-- Of a section that opens on a line: at that line the keys that no line of it has, then the others.
abbrev pub told_of_keys : ℕ → List (List ℕ) → List UnknownKey → List ℕ
told_of_keys n lines ks = flat_map (told_unknown n) (keys_left [] ks lines) ++ told_along (n + 1) [] ks lines

abbrev pub told_of_document : (Members → List UnknownKey) → ℕ → List ℕ → Option Members → List ℕ
told_of_document unknown n text None = []
told_of_document unknown n text (Some ms) = told_of_keys n (lines_in text).lines (unknown ms)

-- of the text of a section that opens on a line
unfoldable pub told_of_section : (Members → List UnknownKey) → ℕ → List ℕ → List ℕ
told_of_section unknown n text = if is_utf8 text then told_of_document unknown n text (parse_document text) else []

abbrev pub told_if_there : (Members → List UnknownKey) → ℕ → Result Section ScheduleFault → List ℕ
told_if_there unknown n (Ok s) = told_of_section unknown n s.text
told_if_there unknown n (Err fault) = []

-- the section of an issuer, where what is left begins with one
unfoldable pub unknown_from_issuer : Unread → List ℕ
unknown_from_issuer u = told_if_there unknown_in_issuer u.line (section_in code.Issuer (codes "issuer ") most_issuer_lines u)

abbrev pub behind_sheet : Unread → Result Section ScheduleFault → List ℕ
behind_sheet u (Ok s) = told_of_section unknown_in_sheet u.line s.text ++ unknown_from_issuer s.rest
behind_sheet u (Err fault) = unknown_from_issuer u

-- the section of a sheet, and that of an issuer, each where what is left begins with it
unfoldable pub unknown_from : Unread → List ℕ
unknown_from u = behind_sheet u (section_in code.Sheet (codes "sheet ") most_sheet_lines u)

-- of the sections of a sheet and of an issuer that stand from a line of a text on, each where it is there
unfoldable pub unknown_on : ℕ → List ℕ → List ℕ
unknown_on n text = elim (from_line code.Sheet n text) [ Ok u ↦ unknown_from u | Err fault ↦ [] ]
