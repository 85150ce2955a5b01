-- What an input asks to be journaled and to be closed, in its order.
use Rattle.std.specs.Prelude.{◌≡◌, ◌≤◌, ◌⊎◌, ℕ, zero, suc, ◌+◌, ◌-◌, ◌==◌, Bool, true, false, if◌then◌else◌, max, fold, map, List, [], ◌∷◌, length, take, drop, Option, Some, None, Ok, Err, unwrap_or, slice_get, nat_lt, codes}
use Rattle.std.specs.List.{flat_map, list_all, position}
use Rattle.metering_model.specs.Limits.{last_period}
use Rattle.metering_model.specs.Batch.{is_empty}
use Rattle.metering_model.specs.declared.BatchCode.{BatchCode}
use Rattle.metering_model.specs.declared.BatchCode.TheVariants.{Head, TooLong}
use Rattle.metering_model.specs.BatchReading.{batch_in}
use Rattle.metering_model.specs.Front.{is_due}
use Rattle.metering_model.specs.Transcript.{line, line_count}
use Rattle.batch_view.specs.Batches.{batch_of}
use Rattle.batch_view.specs.Extents.{extent_in}
use Rattle.input_sections.specs.RateInput.{RateInput}
use Rattle.input_sections.specs.Sections.{begins_with}

-- ---- where a batch ends

-- the text up to the place of a line feed, and all of it where there is none
abbrev pub through_feed : Option ℕ → List ℕ → List ℕ
through_feed (Some i) text = take (i + 1) text
through_feed None text = text

-- the first line with its line feed
abbrev pub head_text : List ℕ → List ℕ
head_text text = through_feed (position (λ c. c == 10) text) text

-- what a first line alone is refused for where no batch may begin with it: it is no head, and may be longer than a batch
abbrev pub is_head_code : BatchCode → Bool
is_head_code Head = true
is_head_code TooLong = true
is_head_code _ = false

-- no line comes first that a batch may begin with
abbrev pub lacks_head : List ℕ → Bool
lacks_head text = elim (batch_in (head_text text)) [ Ok b ↦ false | Err fault ↦ is_head_code fault.code ]

-- How many bytes are offered as the batch that comes next: the head line and the lines that it counts. A first line that is no
-- head is offered by itself, however long it is, and where the lines that a head counts are too few or too long all that is left.
unfoldable pub offered_length : List ℕ → ℕ
offered_length text =
    elim (extent_in text) [ Some n ↦ n | None ↦ (if lacks_head text then length (head_text text) else length text) ]

-- ---- the items

-- what is offered as a batch: the byte of the input at which it begins, and its text
pub record Offered : Type 0 where
  pub from : ℕ
  pub text : List ℕ

-- the line of the input on which a batch begins, counted from 1: one more than the line feeds above it
abbrev pub line_of : List ℕ → Offered → ℕ
line_of input b = 1 + line_count (take b.from input)

pub data Item : Type 0 where
  Offers : Offered → Item
  Closes : Item

-- a line that says that the period is closed which is open
abbrev pub close_line : List ℕ
close_line = line (codes "close")

-- the item that begins at a byte of the input, and how many bytes it has
abbrev pub item_at : List ℕ → ℕ → Item
item_at input from =
    if begins_with close_line (drop from input) then Closes
    else Offers (record { from = from; text = take (offered_length (drop from input)) (drop from input) })

abbrev pub item_length : List ℕ → ℕ
item_length left = if begins_with close_line left then length close_line else offered_length left

-- the items from a byte on, and no more than so many
unfoldable pub items_in : ℕ → List ℕ → ℕ → List Item
items_in zero input from = []
items_in (suc most) input from =
    if is_empty (drop from input) then []
    else item_at input from ∷ items_in most input (from + item_length (drop from input))

-- the items behind the sections of an input
unfoldable pub items_of : List ℕ → RateInput → List Item
items_of input given = items_in (length input) input (length input - length given.batch)

-- the text of an item, and that of items, one behind the other
abbrev pub item_text : Item → List ℕ
item_text (Offers b) = b.text
item_text Closes = close_line

abbrev pub items_text : List Item → List ℕ
items_text is = flat_map item_text is

-- the batches, in the order in which they are journaled
abbrev pub batches_of : List Item → List Offered
batches_of [] = []
batches_of (Offers b ∷ is) = b ∷ batches_of is
batches_of (Closes ∷ is) = batches_of is

-- how many batches stand above each line that closes a period, where so many stand above all of these
abbrev pub closes_from : ℕ → List Item → List ℕ
closes_from n [] = []
closes_from n (Offers b ∷ is) = closes_from (n + 1) is
closes_from n (Closes ∷ is) = n ∷ closes_from n is

abbrev pub closes_of : List Item → List ℕ
closes_of is = closes_from 0 is

-- of so many batches, how many are journaled before a period is closed: those above its line, and where it has none all
abbrev pub due_in : List ℕ → ℕ → ℕ → ℕ
due_in closes count p = unwrap_or (slice_get closes p) count

abbrev pub due_before : List Item → ℕ → ℕ
due_before is p = due_in (closes_of is) (length (batches_of is)) p

-- ---- the group, and the last period

-- the greatest agent that a batch names, and 1 where none does
abbrev pub agents_of : List Offered → ℕ
agents_of bs = fold max 1 (map (λ b. (batch_of b.text).agent) bs)

-- each reading of the batches starts before the end of the period
abbrev pub are_due : ℕ → ℕ → List Offered → Bool
are_due base p bs = list_all (λ b. is_due base p (batch_of b.text)) bs

-- The last period in which a reading starts, and at most the last that a group has: no reading starts after it, unless it is that
-- one; and one starts in it, or where it is that one in it or after it, unless it is the first.
pub record IsLastStart (base : ℕ) (bs : List Offered) (p : ℕ) : Type 0 where
  pub within : p ≤ last_period
  pub none_behind : (p ≡ last_period) ⊎ (are_due base p bs ≡ true)
  pub one_there : (p ≡ 0) ⊎ (are_due base (p - 1) bs ≡ false)

-- the period that is asked for, or else the last one in which a reading starts
abbrev pub IsAskedFor : Option ℕ → ℕ → List Offered → ℕ → Type 0
IsAskedFor (Some through) base bs p = p ≡ through
IsAskedFor None base bs p = IsLastStart base bs p

-- how many batches stand above the last of the lines that close a period; 0 where there is none
abbrev pub above_last : List ℕ → ℕ
above_last closes = unwrap_or (slice_get closes (length closes - 1)) 0

-- The period that is closed last for the sake of these lines, of which each tells how many of the batches stand above it: that of
-- the last line; or the one after, where none is asked for and a batch stands below that line.
abbrev pub least_last : Option ℕ → ℕ → List ℕ → ℕ
least_last (Some through) count closes = length closes - 1
least_last None count closes = if nat_lt (above_last closes) count then length closes else length closes - 1

-- The last period that is closed: the one that is asked for, or the one that the lines ask for, where that is later.
pub record IsLastClosed (through : Option ℕ) (base : ℕ) (is : List Item) (last : ℕ) : Type 0 where
  pub asked : ℕ
  pub is_asked : IsAskedFor through base (batches_of is) asked
  pub is_last : last ≡ max asked (least_last through (length (batches_of is)) (closes_of is))
