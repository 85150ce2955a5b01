-- A request for help or the version is the only kind of its fault: no word of a command that has no subcommand `help` is told both as one and as another.
use Rattle.std.proofs.Common.{◌≡◌, ◌≢◌, ◌&&◌, ◌==◌, ◌||◌, ℕ, Bool, cond, codes, true, false, not, zero, suc, refl, sym, ap, List, [], ◌∷◌, length, drop, Option, Some, None, inl, inr, is_some, encode_utf8, slice_get, find, nat_lt}
use Rattle.std.specs.List.{list_all}
use Rattle.std.specs.Option.{option_map_or}
use Rattle.std.specs.Str.{bytes_eq, chars}
use Rattle.clap.specs.Lexer.{long_of, short_of}
use Rattle.clap.specs.Values.{refused_kind}
use Rattle.clap.specs.ValueTests.{accepts}
use Rattle.clap.specs.Facts.{parser_of_value, unwrap_or_range}
use Rattle.clap.specs.Walk.{Held, Names, Row, Rule, Step, Text, Waiting, Walk, action_of, answers_to, arg_by_id, arg_by_index, arg_by_long}
use Rattle.clap.specs.Walk.{arg_by_short, attached_value, finished, has_row, is_empty, is_pending, most_values, nothing_held, reacted, settled}
use Rattle.clap.specs.Walk.{subcommand_met, takes_several, takes_values, values_or_missing, walk, walk_from, walked, with_default, word_met}
use Rattle.clap.specs.Walk.{next as waits, trailing as trails, subcommand as enters, value as is_value}
use Rattle.clap.specs.Simple.{App, Shape, argument_words, built, entered, label_of, names_of}
use Rattle.clap.specs.Kinds.{IsAmong, Kinds, check_kinds, or_else, range_kinds, request_kinds, value_kinds, values_kinds}
use Rattle.clap.specs.Faults.{action_fault, bundle_step_fault, check_fault, count_fault, default_fault, defaults_fault, entered_fault}
use Rattle.clap.specs.Faults.{flag_word_fault, flags_fault, level_fault, long_fault, option_fault, other_fault, positional_fault, react_fault}
use Rattle.clap.specs.Faults.{repeat_fault, set_fault, settle_fault, short_fault, step_fault, stray_fault, turn_fault, use_fault, values_fault}
use Rattle.clap.specs.Faults.{walk_fault, word_fault, fault_of}
use Rattle.clap.specs.declared.builder.action.ArgAction.{ArgAction}
use Rattle.clap.specs.declared.builder.action.ArgAction.TheVariants as action
use Rattle.clap.specs.declared.builder.value_parser.ValueParser.{ValueParser}
use Rattle.clap.specs.declared.error.kind.ErrorKind.{ErrorKind}
use Rattle.clap.specs.declared.error.kind.ErrorKind.TheVariants as kind

-- what is no kind of a stray word
pub record IsRequest (k : ErrorKind) : Type 0 where
  pub known : k ≢ kind.UnknownArgument
  pub named : k ≢ kind.InvalidSubcommand

-- where the kind comes, no other does
abbrev pub IsAlone : ErrorKind → Kinds → Type 0
IsAlone k kinds = IsAmong k kinds → kinds ≡ k ∷ []

none : (k : ErrorKind) → IsAlone k []
none k among = absurd among

one : (k other : ErrorKind) → IsAlone k (other ∷ [])
one k other (inl is) = ap (λ x. x ∷ []) (sym is)
one k other (inr among) = absurd among

first : (k : ErrorKind) (a b : Kinds) → IsAlone k a → IsAlone k b → IsAlone k (or_else a b)
first k [] b alone next = next
first k (x ∷ xs) b alone next = alone

either : (k : ErrorKind) (test : Bool) (a b : Kinds) → IsAlone k a → IsAlone k b → IsAlone k (cond test a b)
either k true a b there other = there
either k false a b there other = other

perhaps : {A : Type 0} (k : ErrorKind) (o : Option A) (f : A → Kinds) → ((a : A) → IsAlone k (f a)) → IsAlone k (option_map_or f o [])
perhaps k None f some = none k
perhaps k (Some a) f some = some a

-- ---- one use of an argument

value_alone : (k : ErrorKind) (i : Bool) (parser : ValueParser) (text : List ℕ) → IsAlone k (value_kinds i parser text)
value_alone k i parser text = either k (accepts i parser text) [] (refused_kind parser ∷ []) (none k) (one k _)

values_alone : (k : ErrorKind) (i : Bool) (parser : ValueParser) (texts : List (List ℕ)) → IsAlone k (values_kinds i parser texts)
values_alone k i parser [] = none k
values_alone k i parser (v ∷ vs) = first k (value_kinds i parser v) (values_kinds i parser vs) (value_alone k i parser v) (values_alone k i parser vs)

range_alone : (k : ErrorKind) (least most n : ℕ) → IsAlone k (range_kinds least most n)
range_alone k least most n =
    either k (nat_lt 0 least && n == 0) _ _ (one k kind.InvalidValue)
    (either k (least == most) _ _ (either k (least == n) _ _ (none k) (one k kind.WrongNumberOfValues))
    (either k (nat_lt n least) _ _ (one k kind.TooFewValues) (either k (nat_lt most n) _ _ (one k kind.TooManyValues) (none k))))

request_alone : (k : ErrorKind) (x : ArgAction) → IsAlone k (request_kinds x)
request_alone k action.Set = none k
request_alone k action.Append = none k
request_alone k action.SetTrue = none k
request_alone k action.SetFalse = none k
request_alone k action.Count = none k
request_alone k action.Help = one k kind.DisplayHelp
request_alone k action.HelpShort = one k kind.DisplayHelp
request_alone k action.HelpLong = one k kind.DisplayHelp
request_alone k action.Version = one k kind.DisplayVersion

count_alone : (k : ErrorKind) (a : Rule) (values : List Text) (rows : List Row) → IsAlone k (count_fault a values rows)
count_alone k a [] rows = value_alone k a.ignore_case (parser_of_value a.parser) _
count_alone k a (v ∷ vs) rows = values_alone k a.ignore_case (parser_of_value a.parser) (v ∷ vs)

set_alone : (k : ErrorKind) (again : Bool) (a : Rule) (values : List Text) (rows : List Row) → IsAlone k (set_fault again a values rows)
set_alone k again a values rows =
    first k (repeat_fault again a.id rows) (values_fault a values) (either k (has_row a.id rows && not again) _ _ (one k kind.ArgumentConflict) (none k))
    (values_alone k a.ignore_case (parser_of_value a.parser) values)

action_alone : (k : ErrorKind) (x : ArgAction) (again : Bool) (a : Rule) (values : List Text) (rows : List Row) → IsAlone k (action_fault x again a values rows)
action_alone k action.Set again a values rows = set_alone k again a values rows
action_alone k action.Append again a values rows = values_alone k a.ignore_case (parser_of_value a.parser) values
action_alone k action.SetTrue again a values rows = set_alone k again a values rows
action_alone k action.SetFalse again a values rows = set_alone k again a values rows
action_alone k action.Count again a values rows = count_alone k a values rows
action_alone k action.Help again a values rows = one k kind.DisplayHelp
action_alone k action.HelpShort again a values rows = one k kind.DisplayHelp
action_alone k action.HelpLong again a values rows = one k kind.DisplayHelp
action_alone k action.Version again a values rows = one k kind.DisplayVersion

use_alone : (k : ErrorKind) (again : Bool) (a : Rule) (values : List Text) (rows : List Row) → IsAlone k (use_fault again a values rows)
use_alone k again a values rows =
    first k (range_kinds (unwrap_or_range a.range).start_inclusive (most_values a) (length values)) (action_fault (action_of a) again a (values_or_missing a values) rows)
    (range_alone k (unwrap_or_range a.range).start_inclusive (most_values a) (length values)) (action_alone k (action_of a) again a (values_or_missing a values) rows)

-- ---- the walk

settle_alone : (k : ErrorKind) (c : List Rule) (again : Bool) (h : Held) → IsAlone k (settle_fault c again h)
settle_alone k c again h = perhaps k h.pending _ (λ p. perhaps k (arg_by_id c p.0) _ (λ a. use_alone k again a p.1 h.rows))

react_alone : (k : ErrorKind) (c : List Rule) (again : Bool) (a : Rule) (values : List Text) (h : Held) → IsAlone k (react_fault c again a values h)
react_alone k c again a values h =
    first k (settle_fault c again h) (use_fault again a values (settled c h).rows) (settle_alone k c again h) (use_alone k again a values (settled c h).rows)

option_alone : (k : ErrorKind) (c : List Rule) (again : Bool) (a : Rule) (v : Option Text) (h : Held) → IsAlone k (option_fault c again a v h)
option_alone k c again a (Some v) h = react_alone k c again a (v ∷ []) h
option_alone k c again a None h = settle_alone k c again h

long_alone : (k : ErrorKind) (c : List Rule) (again : Bool) (a : Option Rule) (v : Option Text) (h : Held) → IsAlone k (long_fault c again a v h)
long_alone k c again None v h = one k kind.UnknownArgument
long_alone k c again (Some a) v h =
    either k (takes_values a) _ _ (option_alone k c again a v h) (either k (is_some v) _ _ (one k kind.TooManyValues) (react_alone k c again a [] h))

short_alone : (k : ErrorKind) (c : List Rule) (again : Bool) (a : Option Rule) (rest : Text) (h : Held) (next : Held → Kinds) → ((g : Held) → IsAlone k (next g))
    → IsAlone k (short_fault c again a rest h next)
short_alone k c again None rest h next after = one k kind.UnknownArgument
short_alone k c again (Some a) rest h next after =
    either k (takes_values a) _ _ (option_alone k c again a (attached_value rest) h)
    (first k (react_fault c again a [] h) (next (reacted c a [] h)) (react_alone k c again a [] h) (after (reacted c a [] h)))

bundle_step_alone : (k : ErrorKind) (c : List Rule) (again : Bool) (x : Option ℕ) (flags : Text) (skip : ℕ) (h : Held) (next : Text → ℕ → Held → Kinds)
    → ((t : Text) (n : ℕ) (g : Held) → IsAlone k (next t n g)) → IsAlone k (bundle_step_fault c again x flags skip h next)
bundle_step_alone k c again None flags skip h next after = none k
bundle_step_alone k c again (Some x) flags zero h next after =
    let rest = drop (length (encode_utf8 x)) flags in short_alone k c again (arg_by_short c x) rest h (next rest 0) (after rest 0)
bundle_step_alone k c again (Some x) flags (suc skip) h next after = after _ skip h

flags_alone : (k : ErrorKind) (c : List Rule) (again : Bool) (n : ℕ) (flags : Text) (skip : ℕ) (h : Held) → IsAlone k (flags_fault c again n flags skip h)
unfolding flags_fault
flags_alone k c again zero flags skip h = none k
flags_alone k c again (suc n) flags skip h =
    bundle_step_alone k c again (slice_get (chars flags) 0) flags skip h (flags_fault c again n) (λ t m g. flags_alone k c again n t m g)

flag_word_alone : (k : ErrorKind) (c : List Rule) (again : Bool) (p : Option (Text × Option Text)) (word : Text) (h : Held) → IsAlone k (flag_word_fault c again p word h)
flag_word_alone k c again (Some p) word h = long_alone k c again (arg_by_long c p.0) p.1 h
flag_word_alone k c again None word h =
    perhaps k (short_of word) _ (λ flags. flags_alone k c again (length flags) flags h.skip (record h { skip = 0 }))

-- `help` is no subcommand.
no_help : (k : ErrorKind) (is_help disabled : Bool) (a : Kinds) → disabled ≡ true → IsAlone k (cond (is_help && not disabled) a [])
no_help k true true a off = none k
no_help k true false a off = absurd (cc)
no_help k false true a off = none k
no_help k false false a off = none k

other_alone : (k : ErrorKind) (s : Shape) (met : Option Text) (word : Text) (h : Held) → s.disable_help_subcommand ≡ true → IsAlone k (other_fault s met word h)
other_alone k s (Some name) word h off = no_help k (bytes_eq name (codes "help")) s.disable_help_subcommand _ off
other_alone k s None word h off =
    either k (bytes_eq word (45 ∷ 45 ∷ [])) _ _ (none k) (flag_word_alone k s.rules s.args_override_self (long_of word) word h)

word_alone : (k : ErrorKind) (s : Shape) (names : Names) (is_trailing : Bool) (waiting : Waiting) (word : Text) (h : Held) → s.disable_help_subcommand ≡ true
    → IsAlone k (word_fault s names is_trailing waiting word h)
word_alone k s names is_trailing waiting word h off = either k is_trailing _ _ (none k) (other_alone k s (subcommand_met names waiting word) word h off)

stray : (k : ErrorKind) → IsRequest k → IsAlone k (kind.UnknownArgument ∷ kind.InvalidSubcommand ∷ [])
stray k request (inl is) = absurd (request.known is)
stray k request (inr (inl is)) = absurd (request.named is)
stray k request (inr (inr among)) = absurd among

stray_alone : (k : ErrorKind) → IsRequest k → (s : Shape) → IsAlone k (stray_fault s)
stray_alone k request s = either k s.is_leaf _ _ (one k kind.UnknownArgument) (stray k request)

positional_alone : (k : ErrorKind) (c : List Rule) (again : Bool) (a : Rule) (h : Held) → IsAlone k (positional_fault c again a h)
positional_alone k c again a h = either k (is_pending a h.pending && takes_several a) _ _ (none k) (settle_alone k c again h)

step_alone : (k : ErrorKind) → IsRequest k → (s : Shape) (position : ℕ) (h : Held) (step : Step) → IsAlone k (step_fault s position h step)
step_alone k request s position h is_value = at (arg_by_index s.rules position)
  where
    at : (a : Option Rule) → IsAlone k (option_map_or (λ r. positional_fault s.rules s.args_override_self r h) a (stray_fault s))
    at None = stray_alone k request s
    at (Some a) = positional_alone k s.rules s.args_override_self a h
step_alone k request s position h (waits waiting) = none k
step_alone k request s position h (trails n) = none k
step_alone k request s position h (enters name) = none k

turn_alone : (k : ErrorKind) → IsRequest k → (s : Shape) (names : Names) (w : Walk) (word : Text) → s.disable_help_subcommand ≡ true → IsAlone k (turn_fault s names w word)
turn_alone k request s names w word off =
    let met = word_met s.rules names w.is_trailing w.waiting w.position word w.held in
    either k (is_some w.stopped) [] _ (none k)
    (first k (word_fault s names w.is_trailing w.waiting word w.held) (step_fault s w.position met.0 met.1) (word_alone k s names w.is_trailing w.waiting word w.held off)
    (step_alone k request s w.position met.0 met.1))

walk_alone : (k : ErrorKind) → IsRequest k → (s : Shape) (names : Names) (w : Walk) (words : List Text) → s.disable_help_subcommand ≡ true → IsAlone k (walk_fault s names w words)
unfolding walk_fault
walk_alone k request s names w [] off = none k
walk_alone k request s names w (word ∷ rest) off =
    first k (turn_fault s names w word) (walk_fault s names (walked s.rules names w word) rest) (turn_alone k request s names w word off)
    (walk_alone k request s names (walked s.rules names w word) rest off)

-- ---- after the walk

default_alone : (k : ErrorKind) (rows : List Row) (a : Rule) → IsAlone k (default_fault rows a)
default_alone k rows a =
    either k (has_row a.id rows || is_empty a.defaults) _ _ (none k)
    (first k (request_kinds (action_of a)) (values_fault a a.defaults) (request_alone k (action_of a)) (values_alone k a.ignore_case (parser_of_value a.parser) a.defaults))

defaults_alone : (k : ErrorKind) (rows : List Row) (rules : List Rule) → IsAlone k (defaults_fault rows rules)
unfolding defaults_fault
defaults_alone k rows [] = none k
defaults_alone k rows (a ∷ rest) =
    first k (default_fault rows a) (defaults_fault (with_default rows a) rest) (default_alone k rows a) (defaults_alone k (with_default rows a) rest)

check_alone : (k : ErrorKind) (help subcommand argument : Bool) → IsAlone k (check_kinds help subcommand argument)
check_alone k help subcommand argument =
    either k help _ _ (one k kind.DisplayHelpOnMissingArgumentOrSubcommand)
    (either k subcommand _ _ (one k kind.MissingSubcommand) (either k argument _ _ (one k kind.MissingRequiredArgument) (none k)))

level_alone : (k : ErrorKind) → IsRequest k → (s : Shape) (names : Names) (h : Held) (words : List Text) (has : Bool) (below : Kinds) → s.disable_help_subcommand ≡ true
    → IsAlone k below → IsAlone k (level_fault s names h words has below)
level_alone k request s names h words has below off under =
    let end = (walk s.rules names h words).held in
    first k (walk_fault s names (walk_from h) words) _ (walk_alone k request s names (walk_from h) words off)
    (first k below _ under
    (first k (settle_fault s.rules s.args_override_self end) _ (settle_alone k s.rules s.args_override_self end)
    (first k (defaults_fault (settled s.rules end).rows s.rules) (check_fault s (finished s.rules end) has) (defaults_alone k (settled s.rules end).rows s.rules) (check_alone k _ _ _))))

both_hold : (a b : Bool) → (a && b) ≡ true → (a ≡ true) × (b ≡ true)
both_hold true true is = (refl, refl)
both_hold true false is = absurd (cc)
both_hold false b is = absurd (cc)

-- what is found is the first, or among the others
here_or_there : (k : ErrorKind) (test : Bool) (f : Shape → Kinds) (s : Shape) (found : Option Shape) → IsAlone k (f s) → IsAlone k (option_map_or f found [])
    → IsAlone k (option_map_or f (cond test (Some s) found) [])
here_or_there k true f s found here there = here
here_or_there k false f s found here there = there

-- no subcommand has one named `help`
found_alone : (k : ErrorKind) → IsRequest k → (test : Shape → Bool) (words : List Text) (subs : List Shape) → list_all (λ (s : Shape). s.disable_help_subcommand) subs ≡ true
    → IsAlone k (option_map_or (λ s. level_fault s [] nothing_held words false []) (find test subs) [])
found_alone k request test words [] off = none k
found_alone k request test words (s ∷ subs) off =
    let all = both_hold s.disable_help_subcommand _ off in
    here_or_there k (test s) (λ s. level_fault s [] nothing_held words false []) s (find test subs) (level_alone k request s [] nothing_held words false [] all.0 (none k))
    (found_alone k request test words subs all.1)

entered_alone : (k : ErrorKind) → IsRequest k → (a : App) (stop : Option (Text × List Text)) → list_all (λ (s : Shape). s.disable_help_subcommand) a.subs ≡ true
    → IsAlone k (entered_fault a stop)
entered_alone k request a None off = none k
entered_alone k request a (Some p) off = found_alone k request (λ s. answers_to p.0 (label_of s)) p.1 a.subs off

-- Where neither the command nor any subcommand has a subcommand named `help`, a request is the only kind of its fault.
pub request_alone_in : (k : ErrorKind) → IsRequest k → (a : App) (words : List Text) → (built a).top.disable_help_subcommand ≡ true
    → list_all (λ (s : Shape). s.disable_help_subcommand) (built a).subs ≡ true → IsAlone k (fault_of a words)
request_alone_in k request a words top subs =
    let it = built a in
    let given = argument_words a words in
    let stop = (walk it.top.rules (names_of it) nothing_held given).stopped in
    level_alone k request it.top (names_of it) nothing_held given (is_some (entered it stop)) (entered_fault it stop) top (entered_alone k request it stop subs)
