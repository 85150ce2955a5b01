-- Where a section stops being TOML, found line by line.
use Rattle.std.proofs.Common.{◌≡◌, ℕ, zero, suc, ◌+◌, ◌-◌, ◌<◌, ◌≤◌, Bool, true, false, cond, List, [], ◌∷◌, ◌++◌, length, take, drop, Option, Some, None, refl, sym, ap, ap₂, subst, ◌∙◌, arith, append_assoc, length-append}
use Rattle.std.specs.Prelude.{◌&&◌, ◌||◌, nat_le, nat_lt}
use Rattle.std.specs.Option.{is_some}
use Rattle.std.specs.Str.{IsUtf8, is_utf8}
use Rattle.std.proofs.lemmas.Bool.Decides.{nat_tests}
use Rattle.std.proofs.lemmas.List.{drop-append-le, drop_all, take-append-le, take_all}
use Rattle.std.proofs.lemmas.Str.{IsUtf8-from_is_utf8, is_utf8-from_IsUtf8}
use Rattle.toml.specs.Data.{Members}
use Rattle.toml.specs.Parse.{parse_document}
use Rattle.metering_model.specs.BatchReading.{Lines, lines_in, with_line}
use Rattle.metering_model.specs.Schedule.{lines_text}
use Rattle.metering_model.specs.Transcript.{line, line_count}
use Rattle.metering_model.proofs.Splitting.{lines_give_back}
use Rattle.fault_lines.specs.TableLines.{opens_table}
use Rattle.fault_lines.specs.TomlStops.{is_toml, stop_among, stop_from, stop_in, stop_words, stop_words_of, toml_stop}

-- ---- a text by itself

module _ (text : List ℕ) where
  pub toml_there : (ms : Members) → IsUtf8 text → parse_document text ≡ Some ms → is_toml text ≡ true
  toml_there ms utf8 is = ap₂ (λ a (o : Option Members). a && is_some o) (is_utf8-from_IsUtf8 text utf8) is

  pub no_toml : (IsUtf8 text → parse_document text ≡ None) → is_toml text ≡ false
  no_toml none = by_test (is_utf8 text) refl
    where
      by_test : (b : Bool) → is_utf8 text ≡ b → b && is_some (parse_document text) ≡ false
      by_test true e = ap is_some (none (IsUtf8-from_is_utf8 text e))
      by_test false e = refl

-- ---- the lines of a table

no_more : (m n : ℕ) → n < m → nat_le m n ≡ false
no_more m n below = grind (arith, nat_tests)

all_passed : (m n : ℕ) → m ≤ n → nat_le m n ≡ true
all_passed m n up = grind (arith, nat_tests)

pub one_left : (i : ℕ) → i < 99 → 99 - i ≡ suc (99 - (i + 1))
one_left i low = omega (arith, low)

or_true : (b : Bool) → b || true ≡ true
or_true true = refl
or_true false = refl

is_below : (m n : ℕ) → m < n → nat_lt m n ≡ true
is_below m n low = grind (arith, nat_tests)

not_below : (m n : ℕ) → n ≤ m → nat_lt m n ≡ false
not_below m n up = grind (arith, nat_tests)

module _ (ls : List (List ℕ)) (k : ℕ) where
  abbrev up_to : List ℕ
  up_to = lines_text (take (k + 1) ls)

  abbrev by_tests : Bool → Bool → ℕ → Option ℕ
  by_tests ends is left = cond ends None (cond is (stop_among ls (k + 1) left) (Some k))

  ends : (left : ℕ) → (nat_le (length ls) k || nat_lt 65_536 (length up_to)) ≡ true → stop_among ls k left ≡ None
  unfolding stop_among
  ends zero e = refl
  ends (suc left) e = ap (λ b. by_tests b (is_toml up_to) left) e

  pub stop_none : (left : ℕ) → length ls < k + 1 → stop_among ls k left ≡ None
  stop_none left few = ends left (ap (λ b. b || nat_lt 65_536 (length up_to)) (all_passed (length ls) k (omega (arith, few))))

  pub stop_long : (left : ℕ) → 65_536 < length (lines_text (take (k + 1) ls)) → stop_among ls k left ≡ None
  stop_long left long = ends left (ap (λ b. nat_le (length ls) k || b) (is_below _ _ long) ∙ or_true (nat_le (length ls) k))

  module _ (left : ℕ) (there : k + 1 ≤ length ls) (short : length (lines_text (take (k + 1) ls)) ≤ 65_536) where
    unfolded : stop_among ls k (suc left) ≡ cond (is_toml up_to) (stop_among ls (k + 1) left) (Some k)
    unfolding stop_among
    unfolded =
        let more = no_more (length ls) k (omega (arith, there)) in
        ap (λ b. by_tests b (is_toml up_to) left) (ap₂ (λ a b. a || b) more (not_below _ _ short))

    pub stop_here : is_toml (lines_text (take (k + 1) ls)) ≡ false → stop_among ls k (suc left) ≡ Some k
    stop_here not = unfolded ∙ ap (λ b. cond b (stop_among ls (k + 1) left) (Some k)) not

    pub stop_below : is_toml (lines_text (take (k + 1) ls)) ≡ true → stop_among ls k (suc left) ≡ stop_among ls (k + 1) left
    stop_below is = unfolded ∙ ap (λ b. cond b (stop_among ls (k + 1) left) (Some k)) is

-- ---- a table

module _ (first : ℕ) (table : List ℕ) where
  pub stops_at : (k n : ℕ) → Some k ≡ stop_among (lines_in table).lines 0 99 → n ≡ first + k → Some n ≡ stop_in first table
  unfolding stop_in
  stops_at k n stop at = ap (λ i. Some i) at ∙ ap (λ (o : Option ℕ). elim o [ Some k ↦ Some (first + k) | None ↦ None ]) stop

  pub stops_nowhere : None ≡ stop_among (lines_in table).lines 0 99 → None ≡ stop_in first table
  unfolding stop_in
  stops_nowhere stop = ap (λ (o : Option ℕ). elim o [ Some k ↦ Some (first + k) | None ↦ None ]) stop

-- ---- one line after another

-- what stands before an end
pub ends_behind : (text front end : List ℕ) → text ≡ front ++ end → (take (length text - length end) text ≡ front) × (drop (length text - length end) text ≡ end)
ends_behind text front end is =
    let at : length text - length end ≡ length front = omega (arith, ap length is ∙ length-append front end) in (
      ap₂ take at is ∙ take-append-le (length front) front end (omega arith) ∙ take_all (length front) front (omega arith),
      ap₂ drop at is ∙ drop-append-le (length front) front end (omega arith) ∙ ap (λ t. t ++ end) (drop_all (length front) front (omega arith)),
    )

pub line_joined : (text l behind : List ℕ) → lines_in text ≡ with_line l (lines_in behind) → text ≡ line l ++ behind
line_joined text l behind is =
    sym (lines_give_back text)
    ∙ ap (λ (ls : Lines). lines_text ls.lines ++ ls.rest) is
    ∙ append_assoc (line l) (lines_text (lines_in behind).lines) (lines_in behind).rest
    ∙ ap (λ t. line l ++ t) (lines_give_back behind)

module _ (first n : ℕ) (table : List ℕ) where
  pub last_stops : is_toml table ≡ false → stop_from first table n [] ≡ stop_in first table
  unfolding stop_from
  last_stops no_toml = ap (λ b. cond b None (stop_in first table)) no_toml

  pub none_stops : is_toml table ≡ true → stop_from first table n [] ≡ None
  unfolding stop_from
  none_stops is = ap (λ b. cond b None (stop_in first table)) is

  module _ (l : List ℕ) (ls : List (List ℕ)) where
    pub open_stops : opens_table l ≡ true → is_toml table ≡ false → stop_from first table n (l ∷ ls) ≡ stop_in first table
    unfolding stop_from
    open_stops opens no_toml =
        ap₂ (λ a b. cond a (cond b (stop_from n (line l) (n + 1) ls) (stop_in first table)) (stop_from first (table ++ line l) (n + 1) ls)) opens no_toml

    pub next_opens : opens_table l ≡ true → is_toml table ≡ true → stop_from first table n (l ∷ ls) ≡ stop_from n (line l) (n + 1) ls
    unfolding stop_from
    next_opens opens is =
        ap₂ (λ a b. cond a (cond b (stop_from n (line l) (n + 1) ls) (stop_in first table)) (stop_from first (table ++ line l) (n + 1) ls)) opens is

    pub goes_on : opens_table l ≡ false → stop_from first table n (l ∷ ls) ≡ stop_from first (table ++ line l) (n + 1) ls
    unfolding stop_from
    goes_on closed =
        ap (λ b. cond b (cond (is_toml table) (stop_from n (line l) (n + 1) ls) (stop_in first table)) (stop_from first (table ++ line l) (n + 1) ls)) closed

-- ---- what is left

-- What stands of a table before what is left of it.
abbrev pub passed_of : (table left : List ℕ) → List ℕ
passed_of table left = take (length table - length left) table

-- What was passed of the open table, and the lines that are left, stop where all lines do.
abbrev pub AreLeft : (opening : ℕ) (text table left : List ℕ) (first index : ℕ) → Type 0
AreLeft opening text table left first index =
    (stop_from (opening + 1 + first) (passed_of table left) (opening + 1 + index) (lines_in left).lines ≡ toml_stop opening text)
    × (table ≡ passed_of table left ++ left)
    × (length (lines_in left).lines + index ≤ line_count text)

pub all_left : (opening : ℕ) (text : List ℕ) → length (lines_in text).lines ≤ line_count text → AreLeft opening text text text 0 0
all_left opening text fit =
    let no_bytes : length text - length text ≡ 0 = omega arith in
    let none : passed_of text text ≡ [] = ap (λ n. take n text) no_bytes in
    let at_first : opening + 1 + 0 ≡ opening + 1 = omega arith in (
      ap₂ (λ n t. stop_from n t n (lines_in text).lines) at_first none,
      sym (ap (λ t. t ++ text) none),
      omega (arith, fit),
    )

module _ (opening : ℕ) (text table left : List ℕ) (first index : ℕ) (are_left : AreLeft opening text table left first index) where
  pub left_fits : length left ≤ length table
  left_fits = omega (arith, ap length are_left.1 ∙ length-append (passed_of table left) left)

  module _ (l behind : List ℕ) (is : lines_in left ≡ with_line l (lines_in behind)) where
    joined : left ≡ line l ++ behind
    joined = line_joined left l behind is

    lines_are : (lines_in left).lines ≡ l ∷ (lines_in behind).lines
    lines_are = ap (λ (ls : Lines). ls.lines) is

    fewer : length (lines_in behind).lines + (index + 1) ≤ line_count text
    fewer = omega (arith, are_left.2, ap length lines_are)

    at_first : stop_from (opening + 1 + first) (passed_of table left) (opening + 1 + index) (l ∷ (lines_in behind).lines) ≡ toml_stop opening text
    at_first = ap (stop_from (opening + 1 + first) (passed_of table left) (opening + 1 + index)) (sym lines_are) ∙ are_left.0

    next_line : opening + 1 + (index + 1) ≡ opening + 1 + index + 1
    next_line = omega arith

    pub passed : opens_table l ≡ false → AreLeft opening text table behind first (index + 1)
    passed closed =
        let split : table ≡ (passed_of table left ++ line l) ++ behind
        = are_left.1 ∙ ap (λ t. passed_of table left ++ t) joined ∙ sym (append_assoc (passed_of table left) (line l) behind) in
        let front = (ends_behind table (passed_of table left ++ line l) behind split).0 in (
          ap₂ (λ t n. stop_from (opening + 1 + first) t n (lines_in behind).lines) front next_line
              ∙ sym (goes_on (opening + 1 + first) (opening + 1 + index) (passed_of table left) l (lines_in behind).lines closed)
              ∙ at_first,
          split ∙ ap (λ t. t ++ behind) (sym front),
          fewer,
        )

    pub opened : opens_table l ≡ true → is_toml (passed_of table left) ≡ true → AreLeft opening text left behind index (index + 1)
    opened opens is_one =
        let front = (ends_behind left (line l) behind joined).0 in (
          ap₂ (λ t n. stop_from (opening + 1 + index) t n (lines_in behind).lines) front next_line
              ∙ sym (next_opens (opening + 1 + first) (opening + 1 + index) (passed_of table left) l (lines_in behind).lines opens is_one)
              ∙ at_first,
          joined ∙ ap (λ t. t ++ behind) (sym front),
          fewer,
        )

    pub stops_above : opens_table l ≡ true → is_toml (passed_of table left) ≡ false → stop_in (opening + 1 + first) (passed_of table left) ≡ toml_stop opening text
    stops_above opens no_toml =
        sym (open_stops (opening + 1 + first) (opening + 1 + index) (passed_of table left) l (lines_in behind).lines opens no_toml) ∙ at_first

  module _ (none : (lines_in left).lines ≡ []) where
    at_end : stop_from (opening + 1 + first) (passed_of table left) (opening + 1 + index) [] ≡ toml_stop opening text
    at_end = ap (stop_from (opening + 1 + first) (passed_of table left) (opening + 1 + index)) (sym none) ∙ are_left.0

    pub stops_last : is_toml (passed_of table left) ≡ false → stop_in (opening + 1 + first) (passed_of table left) ≡ toml_stop opening text
    stops_last no_toml = sym (last_stops (opening + 1 + first) (opening + 1 + index) (passed_of table left) no_toml) ∙ at_end

    pub never_stops : is_toml (passed_of table left) ≡ true → None ≡ toml_stop opening text
    never_stops is = sym (none_stops (opening + 1 + first) (opening + 1 + index) (passed_of table left) is) ∙ at_end

-- the same of what is the same
pub moved : (opening : ℕ) (text left : List ℕ) (index : ℕ) (table table' : List ℕ) (first first' : ℕ) → table' ≡ table → first' ≡ first
    → AreLeft opening text table left first index → AreLeft opening text table' left first' index
moved opening text left index table table' first first' is same are_left =
    subst (λ (t : List ℕ). AreLeft opening text t left first' index) (sym is)
    (subst (λ f. AreLeft opening text table left f index) (sym same) are_left)

pub words_are : (n : ℕ) (text : List ℕ) (o : Option ℕ) → o ≡ toml_stop n text → stop_words_of o ≡ stop_words n text
unfolding stop_words
words_are n text o is = ap stop_words_of is
