-- Which grammars stand in for the whole one at which words.
use Rattle.std.proofs.Common.{◌≡◌, ◌≢◌, ◌∙◌, ◌&&◌, ◌||◌, ◌==◌, ℕ, Bool, cond, codes, true, false, zero, suc, refl, sym, ap, ap₂, subst, List, [], ◌∷◌, drop, fold, length, map, slice_get, Option, Some, None, is_some, option_map, Result, IfOk}
use Rattle.std.specs.Prelude.{encode_utf8, find}
use Rattle.std.specs.Option.{option_map_or}
use Rattle.std.specs.Str.{bytes_eq, chars}
use Rattle.std.proofs.lemmas.Result.{IfOk-weaker}
use Rattle.std.proofs.lemmas.Slice.Eq.{bytes_eq-Decides}
use Rattle.clap.specs.Lexer.{long_of, short_of}
use Rattle.clap.specs.Walk.{Held, Names, Outcome, Rule, Step, Text, Walk, after_flag, after_step, answers_to, bundle_met, bundle_step, finished, idle, long_or_other}
use Rattle.clap.specs.Walk.{nothing_held, plain, settled, short_or_plain, stop_after, subcommand_met, subcommand_or_other, trailing, walk, walk_from, walked}
use Rattle.clap.specs.Simple.{App, Shape, app_of, built, built_leaf, entered, filled, help_rule, inherited, label_of, names_of, new_app, rows_at, version_rule}
use Rattle.clap.specs.Kinds.{Kinds, or_else}
use Rattle.clap.specs.Faults.{built_fault, bundle_fault, bundle_step_fault, check_fault, defaults_fault, entered_fault, flag_word_fault, flags_fault}
use Rattle.clap.specs.Faults.{is_simple_and_free, level_fault, long_fault, other_fault, settle_fault, short_fault, step_fault, walk_fault}
use Rattle.clap.specs.declared.builder.command.Command.{Command}
use Rattle.clap.proofs.FaultLemmas.{stopped_fault}
use Rattle.clap.proofs.WalkLemmas.{walk_stopped}
use Rattle.clap.proofs.OnLiterals.{clap_on_literals}
use Rattle.command_line.specs.CommandLine.{check_grammar, grammar_of_focusd, period_grammar, schedule_grammar, sheets_grammar, threads_grammar}
use Rattle.command_line.specs.Inner.Grammars.{StandsIn, with_one}

-- the top of each of these grammars, as it is built
abbrev top : Shape
top = (built grammar_of_focusd).top

-- a subcommand, as it is built below it
abbrev below : App → Shape
below a = built_leaf (inherited top a.top)

abbrev of_subs : List Shape → App
of_subs subs = record { top = top; subs = subs }

-- ---- words that begin with the name of a subcommand

-- the walk stops at such a word
stops : (names : Names) (word name : Text) (rest : List Text) → subcommand_met names idle word ≡ Some name
    → walk top.rules names nothing_held (word ∷ rest) ≡ record (walk_from nothing_held) { stopped = Some (name, rest) }
unfolding walked
stops names word name rest met =
    let first : walked top.rules names (walk_from nothing_held) word ≡ record (walk_from nothing_held) { stopped = Some (name, []) } =
    ap (λ o. let step = subcommand_or_other top.rules o idle 1 word nothing_held in after_step top.rules word (walk_from nothing_held) step.0 step.1) met in
    ap (λ w. fold (walked top.rules names) w rest) first ∙ sym (walk_stopped top.rules names (walk_from nothing_held) name [] rest)

-- what a first word comes to, by the subcommand that it names
abbrev first_fault : Names → Text → List Text → Option Text → Kinds
first_fault names word rest named =
    let step = subcommand_or_other top.rules named idle 1 word nothing_held in
    or_else (or_else (other_fault top named word nothing_held) (step_fault top 1 step.0 step.1))
    (walk_fault top names (after_step top.rules word (walk_from nothing_held) step.0 step.1) rest)

first_fault_is : (names : Names) (word : Text) (rest : List Text)
    → walk_fault top names (walk_from nothing_held) (word ∷ rest) ≡ first_fault names word rest (subcommand_met names idle word)
unfolding walk_fault walked
first_fault_is names word rest = refl

-- `help` is no subcommand
no_help : (is_help : Bool) (kinds : Kinds) → cond (is_help && false) kinds [] ≡ []
no_help true kinds = refl
no_help false kinds = refl

-- and has no fault of its own
no_fault : (names : Names) (word name : Text) (rest : List Text) → subcommand_met names idle word ≡ Some name
    → walk_fault top names (walk_from nothing_held) (word ∷ rest) ≡ []
no_fault names word name rest met =
    first_fault_is names word rest ∙ (ap (first_fault names word rest) met
    ∙ ap₂ (λ a b. or_else (or_else a []) b) (no_help (bytes_eq name (codes "help")) _) (stopped_fault top names (walk_from nothing_held) (name, []) rest))

-- the word names this subcommand of these
abbrev IsMetAs : List Shape → Text → Shape → Type 0
IsMetAs subs word s = (subcommand_met (map label_of subs) idle word ≡ Some s.name) × (find (λ x. answers_to s.name (label_of x)) subs ≡ Some s)

-- the fault of words whose first names a subcommand is that of the others there
fault_below : (subs : List Shape) (word : Text) (rest : List Text) (s : Shape) → IsMetAs subs word s
    → built_fault (of_subs subs) nothing_held (word ∷ rest) ≡ or_else (level_fault s [] nothing_held rest false []) []
unfolding defaults_fault
fault_below subs word rest s met =
    let names = map label_of subs in
    let entering : Option Shape → Kinds = λ o. or_else (option_map_or (λ x. level_fault x [] nothing_held rest false []) o []) (check_fault top (finished top.rules nothing_held) (is_some (option_map (λ x. rows_at x rest) o))) in
    let at_end : Kinds → Walk → Kinds = λ fault w. or_else fault
    (or_else (entered_fault (of_subs subs) w.stopped) (or_else (settle_fault top.rules top.args_override_self w.held)
    (or_else (defaults_fault (settled top.rules w.held).rows top.rules) (check_fault top (finished top.rules w.held) (is_some (entered (of_subs subs) w.stopped)))))) in
    ap₂ at_end (no_fault names word s.name rest met.0) (stops names word s.name rest met.0) ∙ ap entering met.1

-- and so are its rows
rows_below : (subs : List Shape) (word : Text) (rest : List Text) (s : Shape) → IsMetAs subs word s
    → entered (of_subs subs) (stop_after top.rules (map label_of subs) (word ∷ rest)) ≡ Some (rows_at s rest)
rows_below subs word rest s met =
    ap (λ (w : Walk). entered (of_subs subs) w.stopped) (stops (map label_of subs) word s.name rest met.0) ∙ ap (option_map (λ x. rows_at x rest)) met.1

-- ---- words that begin with the name of no subcommand

-- some kind comes
abbrev IsFull : Kinds → Type 0
IsFull [] = ⊥
IsFull (k ∷ ks) = Unit {0}

-- of the first, and so of both
full_first : (a b : Kinds) → IsFull a → IsFull (or_else a b)
full_first [] b full = absurd full
full_first (k ∷ ks) b full = full

abbrev help_flag : Rule
help_flag = filled help_rule

abbrev version_flag : Rule
version_flag = filled version_rule

-- the flag that a word names
abbrev flag_of : (is_help is_version : Bool) → Option Rule
flag_of is_help is_version = cond is_help (Some help_flag) (cond is_version (Some version_flag) None)

-- a flag is a request, and no other is known
long_refused : (is_help is_version : Bool) (v : Option Text) → IsFull (long_fault top.rules top.args_override_self (flag_of is_help is_version) v nothing_held)
long_refused true is_version None = tt
long_refused true is_version (Some v) = tt
long_refused false true None = tt
long_refused false true (Some v) = tt
long_refused false false v = tt

short_refused : (is_help is_version : Bool) (rest : Text) (next : Held → Kinds)
    → IsFull (short_fault top.rules top.args_override_self (flag_of is_help is_version) rest nothing_held next)
short_refused true is_version rest next = tt
short_refused false true rest next = tt
short_refused false false rest next = tt

-- the fault of a first word that begins with a hyphen, or of a stray one
abbrev turned : Text → Kinds → Held × Outcome → Kinds
turned word fault met = let step = after_flag top.rules idle word met.0 met.1 in or_else fault (step_fault top 1 step.0 step.1)

-- the first flag of a bundle is refused
bundle_refused : (word flags : Text) (k : ℕ) → IsFull (turned word (flags_fault top.rules top.args_override_self k flags 0 nothing_held) (bundle_met top.rules k flags 0 plain nothing_held))
unfolding flags_fault bundle_met
bundle_refused word flags zero = tt
bundle_refused word flags (suc k) = at (slice_get (chars flags) 0)
  where
    at : (o : Option ℕ) → IsFull (turned word (bundle_step_fault top.rules top.args_override_self o flags 0 nothing_held (flags_fault top.rules top.args_override_self k))
        (bundle_step top.rules o flags 0 plain nothing_held (bundle_met top.rules k)))
    at None = tt
    at (Some x) =
        let rest = drop (length (encode_utf8 x)) flags in
        full_first (bundle_step_fault top.rules top.args_override_self (Some x) flags 0 nothing_held (flags_fault top.rules top.args_override_self k)) _
        (short_refused (104 == x || false) (86 == x || false) rest (flags_fault top.rules top.args_override_self k rest 0))

-- a bundle of flags, or a word that is none
word_refused : (word : Text) (o : Option Text)
    → let step = short_or_plain top.rules idle word o nothing_held in
    IsFull (or_else (option_map_or (λ flags. bundle_fault top.rules top.args_override_self flags nothing_held) o []) (step_fault top 1 step.0 step.1))
word_refused word None = tt
word_refused word (Some flags) = bundle_refused word flags (length flags)

-- any such word
flag_refused : (word : Text) (p : Option (Text × Option Text))
    → let step = long_or_other top.rules idle word p nothing_held in
    IsFull (or_else (flag_word_fault top.rules top.args_override_self p word nothing_held) (step_fault top 1 step.0 step.1))
flag_refused word None = word_refused word (short_of word)
flag_refused word (Some p) =
    full_first (flag_word_fault top.rules top.args_override_self (Some p) word nothing_held) _
    (long_refused (bytes_eq (codes "help") p.0 || false) (bytes_eq (codes "version") p.0 || false) p.1)

-- ---- behind `--` no word names a subcommand

abbrev behind_end : Walk
behind_end = record { held = nothing_held; waiting = idle; position = 1; is_trailing = true; stopped = None }

end_walk : (names : Names) (words : List Text) → fold (walked top.rules names) behind_end words ≡ behind_end
unfolding walked
end_walk names [] = refl
end_walk names (word ∷ words) = end_walk names words

-- and any is refused
end_fault : (names others : Names) (words : List Text) → walk_fault top names behind_end words ≡ walk_fault top others behind_end words
unfolding walk_fault
end_fault names others [] = refl
end_fault names others (word ∷ words) = refl

-- ---- words whose first names no subcommand

-- what such a word comes to, where it is `--` and where it is not
abbrev other_step : Text → Bool → Held × Step
other_step word is_end = cond is_end (nothing_held, trailing 1) (long_or_other top.rules idle word (long_of word) nothing_held)

abbrev other_walk : Text → Bool → Walk
other_walk word is_end = let step = other_step word is_end in after_step top.rules word (walk_from nothing_held) step.0 step.1

abbrev other_fault_of : Text → Bool → Kinds
other_fault_of word is_end =
    let step = other_step word is_end in
    or_else (cond is_end [] (flag_word_fault top.rules top.args_override_self (long_of word) word nothing_held)) (step_fault top 1 step.0 step.1)

abbrev is_end : Text → Bool
is_end word = bytes_eq word (45 ∷ 45 ∷ [])

other_walk_is : (names : Names) (word : Text) → subcommand_met names idle word ≡ None → walked top.rules names (walk_from nothing_held) word ≡ other_walk word (is_end word)
unfolding walked
other_walk_is names word none = ap (λ o. let step = subcommand_or_other top.rules o idle 1 word nothing_held in after_step top.rules word (walk_from nothing_held) step.0 step.1) none

other_fault_is : (names : Names) (word : Text) (rest : List Text) → subcommand_met names idle word ≡ None
    → walk_fault top names (walk_from nothing_held) (word ∷ rest) ≡ or_else (other_fault_of word (is_end word)) (walk_fault top names (other_walk word (is_end word)) rest)
other_fault_is names word rest none = first_fault_is names word rest ∙ ap (first_fault names word rest) none

-- what an app comes to with these faults of its walk, which ended so
abbrev fault_at : App → Kinds → Walk → Kinds
fault_at a fault w =
    or_else fault (or_else (entered_fault a w.stopped) (or_else (settle_fault top.rules top.args_override_self w.held)
    (or_else (defaults_fault (settled top.rules w.held).rows top.rules) (check_fault top (finished top.rules w.held) (is_some (entered a w.stopped))))))

-- the first fault alone counts
first_alone : (a b c d e : Kinds) → IsFull a → or_else (or_else a b) c ≡ or_else (or_else a d) e
first_alone [] b c d e full = absurd full
first_alone (k ∷ ks) b c d e full = refl

not_taken : (a b c : Kinds) → IsFull a → or_else (or_else a b) c ≡ [] → ⊥
not_taken [] b c full none = full
not_taken (k ∷ ks) b c full none = absurd (cc)

-- Both apps come to the same fault, and where it is none, to the same subcommand.
abbrev AreAlike : (a b : App) → List Text → Type 0
AreAlike a b words =
    (built_fault a nothing_held words ≡ built_fault b nothing_held words)
    × (built_fault b nothing_held words ≡ [] → entered a (stop_after top.rules (names_of a) words) ≡ entered b (stop_after top.rules (names_of b) words))

others_alike : (subs more : List Shape) (word : Text) (rest : List Text) → subcommand_met (map label_of subs) idle word ≡ None
    → subcommand_met (map label_of more) idle word ≡ None → AreAlike (of_subs subs) (of_subs more) (word ∷ rest)
others_alike subs more word rest none none_more = at (is_end word) refl
  where
    end_of : (names : Names) → subcommand_met names idle word ≡ None → (b : Bool) → is_end word ≡ b
        → walk top.rules names nothing_held (word ∷ rest) ≡ fold (walked top.rules names) (other_walk word b) rest
    end_of names none b is = ap (λ w. fold (walked top.rules names) w rest) (other_walk_is names word none ∙ ap (other_walk word) is)

    fault_of_walk : (names : Names) → subcommand_met names idle word ≡ None → (b : Bool) → is_end word ≡ b
        → walk_fault top names (walk_from nothing_held) (word ∷ rest) ≡ or_else (other_fault_of word b) (walk_fault top names (other_walk word b) rest)
    fault_of_walk names none b is = other_fault_is names word rest none ∙ ap (λ x. or_else (other_fault_of word x) (walk_fault top names (other_walk word x) rest)) is

    at : (b : Bool) → is_end word ≡ b → AreAlike (of_subs subs) (of_subs more) (word ∷ rest)
    at true is =
        let one = end_of (map label_of subs) none true is ∙ end_walk (map label_of subs) rest in
        let two = end_of (map label_of more) none_more true is ∙ end_walk (map label_of more) rest in
        let faults = fault_of_walk (map label_of subs) none true is ∙ (end_fault (map label_of subs) (map label_of more) rest ∙ sym (fault_of_walk (map label_of more) none_more true is)) in (
          ap₂ (fault_at (of_subs subs)) faults one ∙ sym (ap (fault_at (of_subs more) _) two),
          λ taken. ap (λ (w : Walk). entered (of_subs subs) w.stopped) one ∙ sym (ap (λ (w : Walk). entered (of_subs more) w.stopped) two),
        )
    at false is =
        let full = flag_refused word (long_of word) in
        let one = fault_of_walk (map label_of subs) none false is in
        let two = fault_of_walk (map label_of more) none_more false is in
        let w = walk top.rules (map label_of subs) nothing_held (word ∷ rest) in
        let v = walk top.rules (map label_of more) nothing_held (word ∷ rest) in
        let rest_of : App → Walk → Kinds = λ a x. fault_at a [] x in (
          ap (λ f. or_else f (rest_of (of_subs subs) w)) one
              ∙ (first_alone (other_fault_of word false) _ (rest_of (of_subs subs) w) _ (rest_of (of_subs more) v) full ∙ sym (ap (λ f. or_else f (rest_of (of_subs more) v)) two)),
          λ taken. absurd (not_taken (other_fault_of word false) _ (rest_of (of_subs more) v) full (sym (ap (λ f. or_else f (rest_of (of_subs more) v)) two) ∙ taken)),
        )

-- ---- which grammar stands in for the whole one

abbrev whole : App
whole = built grammar_of_focusd

-- One subcommand alone serves at words that begin with its name.
one_stands_in : (a : App) (word : Text) (rest : List Text) → is_simple_and_free (with_one a) ≡ true → IsMetAs (built (with_one a)).subs word (below a) → IsMetAs whole.subs word (below a)
    → StandsIn (with_one a) (word ∷ rest)
one_stands_in a word rest free one all = record {
  free = free;
  fault = fault_below (built (with_one a)).subs word rest (below a) one ∙ sym (fault_below whole.subs word rest (below a) all);
  met = λ taken. rows_below (built (with_one a)).subs word rest (below a) one ∙ sym (rows_below whole.subs word rest (below a) all);
}

module _ (rest : List Text) where
  pub rate_stands_in : StandsIn (with_one (period_grammar (codes "rate"))) (codes "rate" ∷ rest)
  unfolding clap_on_literals
  rate_stands_in = one_stands_in (period_grammar (codes "rate")) (codes "rate") rest refl (refl, refl) (refl, refl)

  pub play_stands_in : StandsIn (with_one (new_app (codes "play"))) (codes "play" ∷ rest)
  unfolding clap_on_literals
  play_stands_in = one_stands_in (new_app (codes "play")) (codes "play") rest refl (refl, refl) (refl, refl)

  pub check_stands_in : StandsIn (with_one check_grammar) (codes "check" ∷ rest)
  unfolding clap_on_literals
  check_stands_in = one_stands_in check_grammar (codes "check") rest refl (refl, refl) (refl, refl)

  pub file_stands_in : StandsIn (with_one (period_grammar (codes "file"))) (codes "file" ∷ rest)
  unfolding clap_on_literals
  file_stands_in = one_stands_in (period_grammar (codes "file")) (codes "file") rest refl (refl, refl) (refl, refl)

  pub schedule_stands_in : StandsIn (with_one schedule_grammar) (codes "schedule" ∷ rest)
  unfolding clap_on_literals
  schedule_stands_in = one_stands_in schedule_grammar (codes "schedule") rest refl (refl, refl) (refl, refl)

  pub sheets_stands_in : StandsIn (with_one sheets_grammar) (codes "sheets" ∷ rest)
  unfolding clap_on_literals
  sheets_stands_in = one_stands_in sheets_grammar (codes "sheets") rest refl (refl, refl) (refl, refl)

  pub threads_stands_in : StandsIn (with_one threads_grammar) (codes "threads" ∷ rest)
  unfolding clap_on_literals
  threads_stands_in = one_stands_in threads_grammar (codes "threads") rest refl (refl, refl) (refl, refl)

  pub node_stands_in : StandsIn (with_one (new_app (codes "node"))) (codes "node" ∷ rest)
  unfolding clap_on_literals
  node_stands_in = one_stands_in (new_app (codes "node")) (codes "node") rest refl (refl, refl) (refl, refl)

  pub agent_stands_in : StandsIn (with_one (new_app (codes "agent"))) (codes "agent" ∷ rest)
  unfolding clap_on_literals
  agent_stands_in = one_stands_in (new_app (codes "agent")) (codes "agent") rest refl (refl, refl) (refl, refl)

-- `rate` serves where there are no words,
pub none_stands_in : StandsIn (with_one (period_grammar (codes "rate"))) []
unfolding clap_on_literals
none_stands_in = record { free = refl; fault = refl; met = λ taken. refl }

differs : (name word : Text) → word ≢ name → bytes_eq name word ≡ false
differs name word apart = at (bytes_eq name word) refl
  where
    at : (b : Bool) → bytes_eq name word ≡ b → bytes_eq name word ≡ false
    at false is = is
    at true is = absurd (apart (sym ((bytes_eq-Decides name word).0 is)))

-- and where the first is the name of no other.
pub other_stands_in : (word : Text) (rest : List Text) → word ≢ codes "play" → word ≢ codes "check" → word ≢ codes "file" → word ≢ codes "schedule" → word ≢ codes "sheets"
    → word ≢ codes "threads" → word ≢ codes "node" → word ≢ codes "agent" → StandsIn (with_one (period_grammar (codes "rate"))) (word ∷ rest)
unfolding clap_on_literals
other_stands_in word rest no_play no_check no_file no_schedule no_sheets no_threads no_node no_agent = at (bytes_eq (codes "rate") word) refl
  where
    at : (b : Bool) → bytes_eq (codes "rate") word ≡ b → StandsIn (with_one (period_grammar (codes "rate"))) (word ∷ rest)
    at true is = subst (λ w. StandsIn (with_one (period_grammar (codes "rate"))) (w ∷ rest)) ((bytes_eq-Decides (codes "rate") word).0 is) (rate_stands_in rest)
    at false is =
        let play = differs (codes "play") word no_play in
        let check = differs (codes "check") word no_check in
        let file = differs (codes "file") word no_file in
        let schedule = differs (codes "schedule") word no_schedule in
        let sheets = differs (codes "sheets") word no_sheets in
        let threads = differs (codes "threads") word no_threads in
        let node = differs (codes "node") word no_node in
        let agent = differs (codes "agent") word no_agent in
        let here : subcommand_met (names_of (built (with_one (period_grammar (codes "rate"))))) idle word ≡ None = rw is refl in
        let there : subcommand_met (names_of whole) idle word ≡ None = rw (is, play, check, file, schedule, sheets, threads, node, agent) refl in
        let alike = others_alike (built (with_one (period_grammar (codes "rate")))).subs whole.subs word rest here there in
        record { free = refl; fault = alike.0; met = alike.1 }

-- ---- what the grammar's functions say

-- a subcommand stands in as what it is built as, at the word that it is
pub command_stands_in : (a : App) (literal word : Text) (c : Command) → ((rest : List Text) → StandsIn (with_one a) (literal ∷ rest)) → word ≡ literal → app_of c ≡ a
    → (rest : List Text) → StandsIn (with_one (app_of c)) (word ∷ rest)
command_stands_in a literal word c stands is same rest =
    subst (λ (x : App). StandsIn (with_one x) (word ∷ rest)) (sym same) (subst (λ w. StandsIn (with_one a) (w ∷ rest)) (sym is) (stands rest))

pub result_stands_in : {E : Type 0} (a : App) (literal word : Text) (r : Result Command E) → ((rest : List Text) → StandsIn (with_one a) (literal ∷ rest)) → word ≡ literal
    → IfOk r (λ c. app_of c ≡ a) → IfOk r (λ c. (rest : List Text) → StandsIn (with_one (app_of c)) (word ∷ rest))
result_stands_in a literal word r stands is app = IfOk-weaker r _ _ (λ c same. command_stands_in a literal word c stands is same) app

-- the first of some texts, with the others behind it
pub at_first : {A : Type 0} (text_of : A → Text) (P : List Text → Type 0) (xs : List A) (x : A) → Some x ≡ slice_get xs 0 → ((rest : List Text) → P (text_of x ∷ rest)) → P (map text_of xs)
at_first text_of P [] x is holds = absurd (cc)
at_first text_of P (y ∷ ys) x is holds =
    let same : x ≡ y = cc in
    subst (λ z. P (text_of z ∷ map text_of ys)) same (holds (map text_of ys))

-- and none
pub at_none : {A : Type 0} (text_of : A → Text) (P : List Text → Type 0) (xs : List A) → None ≡ slice_get xs 0 → P [] → P (map text_of xs)
at_none text_of P [] is holds = holds
at_none text_of P (y ∷ ys) is holds = absurd (cc)
