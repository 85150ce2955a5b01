-- What a parse that succeeds, or fails, says of what the words ask for.
use Rattle.std.specs.Bool.{⊤}
use Rattle.std.proofs.Common.{Bool, ◌≡◌, ◌≢◌, ◌⊎◌, ◌==◌, ◌∙◌, sym, ap, subst, Result, Ok, Err, IfOk, ℕ, ℤ, ◌+◌, ◌*◌, ◌<◌, ◌^◌, List, [], ◌∷◌, codes, slice_index, Option, Some, None, IfSome, is_none as is_nothing, is_some, option_map, true, false, refl, inl, inr, arith}
use Rattle.std.specs.Str.{bytes_eq}
use Rattle.std.proofs.lemmas.Slice.Eq.{bytes_eq-Decides}
use Rattle.std.specs.Str.Parse.{ParsesBool, ParsesUnsigned, false_text, true_text, ExplainsUnsignedError, HasUnsignedDigitsIfOk}
use Rattle.clap.specs.Words.{App, ReadsOne, Row, Text, first_of, first_value, found_of, is_simple, kind_of, one_text, rows_of, subcommand_of, subcommand_rows_of}
use Rattle.clap.specs.Matches.{has_subcommand, subcommand_name_of}
use Rattle.clap.specs.Kinds.{Kinds, HasKind, IsAmong}
use Rattle.clap.specs.Faults.{fault_of, is_simple_and_free}
use Rattle.clap.specs.declared.parser.matches.ArgMatches.{ArgMatches}
use Rattle.clap.specs.declared.parser.matches.ArgMatches.TheViews.{out-ArgMatches, out-SubCommand}
use Rattle.clap.specs.declared.parser.matches.Found.{Found}
use Rattle.clap.specs.declared.error.Error.{Error}
use Rattle.clap.specs.declared.error.kind.ErrorKind.TheVariants.{DisplayHelp, DisplayVersion, OutOfMemory}
use Rattle.clap.specs.declared.error.kind.ErrorKind.{ErrorKind}
use Rattle.clap.proofs.WalkLemmas.{both, first_value-rows, one_text-rows}
use Rattle.clap.proofs.OnLiterals.{clap_on_literals}
use Rattle.std.specs.Box.{box_value}
use Rattle.std.specs.Borrow.{Bor}
use Rattle.command_line.specs.declared.commands.Command.{Command}
use Rattle.command_line.specs.declared.commands.Kind.{Kind}
use Rattle.command_line.specs.declared.commands.Command.TheVariants.{Rate, Play, Check, File, Threads, Sheets, Schedule, Process, Help, Version}
use Rattle.process_player.specs.declared.heads.ProcessKind.TheVariants as process
use Rattle.command_line.specs.declared.words.LineFault.{LineFault}
use Rattle.command_line.specs.Inner.Requests.{IsRequestFor}
use Rattle.command_line.proofs.RequestLaws.{IsRequest, request_alone_in}
use Rattle.metering_model.specs.Dates.{day_in}
use Rattle.schedule_writer.specs.declared.asked.Request.{Request}
use Rattle.sheet_changes.specs.declared.changes.Asked.{Asked}
use Rattle.threads_player.specs.declared.sizes.Size.{Size}
use Rattle.command_line.specs.CommandLine.{grammar_of_focusd, takes_input, Asks, AsksByName, AsksForHelp, AsksForVersion, GivesAsked, GivesDay, GivesNumber, GivesPeriod, GivesRequest, GivesFlag, GivesKind, GivesSize, GivesThrough, IsNamed, kind_text}

-- a grammar whose options have no rule on one another is simple
pub free_is_simple : (a : App) → is_simple_and_free a ≡ true → is_simple a ≡ true
free_is_simple a free = (both (is_simple a) _ free).0

-- what has no fault fails out of memory alone
pub only_memory : (kinds : Kinds) (e : Error) → kinds ≡ [] → HasKind kinds e → kind_of e ≡ OutOfMemory
only_memory [] e none (inl memory) = memory
only_memory [] e none (inr among) = absurd among
only_memory (k ∷ ks) e none fault = absurd (cc)

-- what has one kind of fault fails for that, or out of memory
only_kind : (k : ErrorKind) (kinds : Kinds) (e : Error) → kinds ≡ k ∷ [] → HasKind kinds e → (kind_of e ≡ OutOfMemory) ⊎ (kind_of e ≡ k)
only_kind k kinds e is has = either_of (subst (λ ks. HasKind ks e) is has)
  where
    either_of : HasKind (k ∷ []) e → (kind_of e ≡ OutOfMemory) ⊎ (kind_of e ≡ k)
    either_of (inl memory) = inl memory
    either_of (inr (inl same)) = inr same
    either_of (inr (inr among)) = absurd among

neither : {A B : Type 0} → (A → ⊥) → (B → ⊥) → A ⊎ B → ⊥
neither no_a no_b (inl a) = no_a a
neither no_a no_b (inr b) = no_b b

-- a request is the only kind of its fault
alone : (k : ErrorKind) → IsRequest k → k ≢ OutOfMemory → (words : List Text) (e : Error) → HasKind (fault_of grammar_of_focusd words) e → kind_of e ≡ k
    → fault_of grammar_of_focusd words ≡ k ∷ []
unfolding clap_on_literals
alone k request no_memory words e (inl memory) is = absurd (no_memory (sym is ∙ memory))
alone k request no_memory words e (inr among) is = request_alone_in k request grammar_of_focusd words refl refl (subst (λ kind. IsAmong kind (fault_of grammar_of_focusd words)) is among)

-- What is asked for is asked for by a name, or it is help or the version.
by_name : (words : List Text) (command : Command) → Asks words command → AsksByName words command ⊎ (AsksForHelp words ⊎ AsksForVersion words)
by_name words (Rate period) asked = inl asked
by_name words Play asked = inl asked
by_name words (Check kind) asked = inl asked
by_name words (File period) asked = inl asked
by_name words (Threads size) asked = inl asked
by_name words (Sheets asked_of) asked = inl asked
by_name words (Schedule request) asked = inl asked
by_name words (Process kind) asked = inl asked
by_name words Help asked = inr (inl asked)
by_name words Version asked = inr (inr asked)

-- and what is asked for by a name is asked for
named_asks : (words : List Text) (command : Command) → AsksByName words command → Asks words command
named_asks words (Rate period) named = named
named_asks words Play named = named
named_asks words (Check kind) named = named
named_asks words (File period) named = named
named_asks words (Threads size) named = named
named_asks words (Sheets asked_of) named = named
named_asks words (Schedule request) named = named
named_asks words (Process kind) named = named
named_asks words Help named = absurd named.named
named_asks words Version named = absurd named.named

-- an error that is neither out of memory nor a request is of words that ask for nothing
pub asks_for_nothing : (words : List Text) (e : Error) → HasKind (fault_of grammar_of_focusd words) e → kind_of e ≢ OutOfMemory → kind_of e ≢ DisplayHelp → kind_of e ≢ DisplayVersion
    → (command : Command) → Asks words command → ⊥
asks_for_nothing words e has no_memory no_help no_version command asked = nothing_of (by_name words command asked)
  where
    nothing_of : AsksByName words command ⊎ (AsksForHelp words ⊎ AsksForVersion words) → ⊥
    nothing_of (inl named) = no_memory (only_memory _ e named.taken has)
    nothing_of (inr (inl help)) = neither no_memory no_help (only_kind DisplayHelp _ e help has)
    nothing_of (inr (inr version)) = neither no_memory no_version (only_kind DisplayVersion _ e version has)

-- a request that is answered is what the words ask for
pub request_asks : (words : List Text) (e : Error) (r : Result Command LineFault) → HasKind (fault_of grammar_of_focusd words) e → IfOk r (λ command. IsRequestFor command (kind_of e))
    → IfOk r (Asks words)
request_asks words e (Ok Help) has is = alone DisplayHelp (record { known = λ same. absurd (cc); named = λ same. absurd (cc) }) (λ same. absurd (cc)) words e has is
request_asks words e (Ok Version) has is = alone DisplayVersion (record { known = λ same. absurd (cc); named = λ same. absurd (cc) }) (λ same. absurd (cc)) words e has is
request_asks words e (Ok (Rate period)) has is = absurd is
request_asks words e (Ok Play) has is = absurd is
request_asks words e (Ok (Check kind)) has is = absurd is
request_asks words e (Ok (File period)) has is = absurd is
request_asks words e (Ok (Threads size)) has is = absurd is
request_asks words e (Ok (Sheets asked_of)) has is = absurd is
request_asks words e (Ok (Schedule request)) has is = absurd is
request_asks words e (Ok (Process kind)) has is = absurd is
request_asks words e (Err fault) has is = tt

-- a text is shown where the words ask for help
pub help_asked : {A : Type 0} (words : List Text) (e : Error) (r : Result A LineFault) → HasKind (fault_of grammar_of_focusd words) e → IfOk r (λ text. kind_of e ≡ DisplayHelp)
    → IfOk r (λ text. AsksForHelp words)
help_asked words e (Ok text) has is = alone DisplayHelp (record { known = λ same. absurd (cc); named = λ same. absurd (cc) }) (λ same. absurd (cc)) words e has is
help_asked words e (Err fault) has is = tt

-- words that are taken ask for no help
pub no_help_asked : (words : List Text) → fault_of grammar_of_focusd words ≡ [] → AsksForHelp words → ⊥
no_help_asked words taken asked = absurd (cc)

-- nor do those that are refused for anything else
pub other_asked : (words : List Text) (e : Error) → HasKind (fault_of grammar_of_focusd words) e → kind_of e ≢ OutOfMemory → kind_of e ≢ DisplayHelp → AsksForHelp words → ⊥
other_asked words e has no_memory no_help asked = neither no_memory no_help (only_kind DisplayHelp _ e asked has)

abbrev entered_of : {A : Type 0} → Option A → (A → Text) → (A → List Row) → Option (Text × List Row)
entered_of {A} o name_of rows = let both : A → Text × List Row = λ a. (name_of a, rows a) in option_map both o

both_parts : {A : Type 0} (o : Option A) (name_of : A → Text) (rows : A → List Row) (name : Text) (rs : List Row)
    → option_map name_of o ≡ Some name → option_map (λ (p : Text × List Row). p.1) (entered_of o name_of rows) ≡ Some rs
    → entered_of o name_of rows ≡ Some (name, rs)
both_parts None name_of rows name rs named has_rows = absurd (cc)
both_parts (Some a) name_of rows name rs named has_rows = cc

-- a subcommand is met with its name and its rows
pub met : (m : ArgMatches) (name : Text) (rs : List Row) → subcommand_name_of m ≡ Some name → option_map (λ (p : Text × List Row). p.1) (subcommand_rows_of m) ≡ Some rs
    → subcommand_rows_of m ≡ Some (name, rs)
met m name rs named has_rows =
    both_parts (out-ArgMatches m).subcommand (λ b. (out-SubCommand (box_value b)).name.now) (λ b. rows_of (found_of (out-SubCommand (box_value b)).matches)) name rs named has_rows

no_rows : {A : Type 0} (o : Option A) (name_of : A → Text) (rows : A → List Row) → is_some o ≡ false → entered_of o name_of rows ≡ None
no_rows None name_of rows none = refl
no_rows (Some a) name_of rows none = absurd (cc)

-- and where none is, there are no rows
pub none_met : {X : Type 0} (m : ArgMatches) (r : Option X) → is_some r ≡ has_subcommand m → r ≡ None → subcommand_rows_of m ≡ None
none_met {X} m r some none =
    no_rows (out-ArgMatches m).subcommand (λ b. (out-SubCommand (box_value b)).name.now) (λ b. rows_of (found_of (out-SubCommand (box_value b)).matches))
    (sym some ∙ ap (λ (o : Option X). is_some o) none)

named_of : {A : Type 0} (o : Option A) (name_of : A → Text) (rows : A → List Row) (name : Text) (rs : List Row)
    → entered_of o name_of rows ≡ Some (name, rs) → option_map name_of o ≡ Some name
named_of None name_of rows name rs entered = absurd (cc)
named_of (Some a) name_of rows name rs entered = let first : Text × List Row → Text = λ p. p.0 in ap (option_map first) entered

-- what is met has the name
pub name_met : (m : ArgMatches) (name : Text) (rs : List Row) → subcommand_rows_of m ≡ Some (name, rs) → subcommand_name_of m ≡ Some name
name_met m name rs entered =
    named_of (out-ArgMatches m).subcommand (λ b. (out-SubCommand (box_value b)).name.now) (λ b. rows_of (found_of (out-SubCommand (box_value b)).matches)) name rs entered

-- what is taken is asked for by its name, if it is asked for
named_of_taken : (words : List Text) (command : Command) → fault_of grammar_of_focusd words ≡ [] → Asks words command → AsksByName words command
named_of_taken words command taken asked = named_by (by_name words command asked)
  where
    named_by : AsksByName words command ⊎ (AsksForHelp words ⊎ AsksForVersion words) → AsksByName words command
    named_by (inl named) = named
    named_by (inr (inl help)) = absurd (cc)
    named_by (inr (inr version)) = absurd (cc)

-- Words that ask for a command name a subcommand.
pub names_one : (words : List Text) (command : Command) → fault_of grammar_of_focusd words ≡ [] → subcommand_of grammar_of_focusd words ≡ None → Asks words command → ⊥
names_one words command taken none asked = let named = named_of_taken words command taken asked in let bad = sym none ∙ named.met in absurd (cc)

-- What the subcommand that is met asks for is asked for,
pub named_is_asked : (words : List Text) (name : Text) (rows : List Row) (command : Command) → fault_of grammar_of_focusd words ≡ []
    → subcommand_of grammar_of_focusd words ≡ Some (name, rows) → IsNamed name rows command → Asks words command
named_is_asked words name rows command taken met named = named_asks words command (record { taken = taken; name = name; rows = rows; met = met; named = named })

-- and nothing else is.
pub asked_is_named : (words : List Text) (name : Text) (rows : List Row) (command : Command) → fault_of grammar_of_focusd words ≡ []
    → subcommand_of grammar_of_focusd words ≡ Some (name, rows) → Asks words command → IsNamed name rows command
asked_is_named words name rows command taken met asked =
    let it = named_of_taken words command taken asked in
    let both : ◌≡◌ {A = Option (Text × List Row)} (Some (it.name, it.rows)) (Some (name, rows)) = sym it.met ∙ met in
    let names = ap (option_map (λ (p : Text × List Row). p.0)) both in
    let same_name : it.name ≡ name = cc in
    let others = ap (option_map (λ (p : Text × List Row). p.1)) both in
    let same_rows : it.rows ≡ rows = cc in
    subst (λ n. IsNamed n rows command) same_name (subst (λ rs. IsNamed it.name rs command) same_rows it.named)

-- what `get_one` says of a number of so many bits
abbrev pub Reads : ℕ → Text → Option ℕ → Type 0
Reads bits = ReadsOne (λ t r. ParsesUnsigned bits 10 t r × ExplainsUnsignedError 10 t r × HasUnsignedDigitsIfOk t r)

-- a number that is read is spelled by a text of the option
pub spelled_number : (bits : ℕ) (option : Text) (f : Found) (o : Option Text) (r : Option ℕ) (n : ℕ) → one_text f option ≡ o → r ≡ Some n
    → (o ≡ None → r ≡ None) → ((t : Text) → o ≡ Some t → Reads bits t r)
    → GivesNumber (rows_of f) option n
spelled_number bits option f None r n is is_read none value = let gone = none refl in absurd (cc)
spelled_number bits option f (Some t) r n is is_read none value =
    let read = rw is_read at (value t refl) in record {
      text = t;
      given = sym (one_text-rows f option) ∙ is;
      spelled = (read.0.0.0, sym read.0.1);
    }

-- a text that spells a number of so many bits is read as it
pub no_number : (bits : ℕ) (option : Text) (f : Found) (r : Option ℕ) (n : ℕ) → GivesNumber (rows_of f) option n → n < 2 ^ bits
    → ((u : Text) → one_text f option ≡ Some u → Reads bits u r) → r ≡ Some n
no_number bits option f None n gives small value =
    let failed = value gives.text (one_text-rows f option ∙ gives.given) in
    absurd (failed.1.0 (gives.spelled.0, rw gives.spelled.1 small))
no_number bits option f (Some m) n gives small value =
    let read = value gives.text (one_text-rows f option ∙ gives.given) in
    ap Some (read.0.1 ∙ gives.spelled.1)

-- where no text is read, the option has none
pub absent : (f : Found) (id : Text) (r : Option (Bor Text)) → option_map (λ (s : Bor Text). s.now) r ≡ first_value f id → is_nothing r ≡ true → first_of id (rows_of f) ≡ None
absent f id None read none = sym (first_value-rows f id) ∙ sym read
absent f id (Some s) read none = absurd (cc)

-- and where one is, it has
pub is_there : (f : Found) (id : Text) (r : Option (Bor Text)) → option_map (λ (s : Bor Text). s.now) r ≡ first_value f id → is_nothing r ≡ false → first_of id (rows_of f) ≡ None → ⊥
is_there f id None read some none = absurd (cc)
is_there f id (Some s) read some none = let bad = read ∙ (first_value-rows f id ∙ none) in absurd (cc)

-- the text that is read is the option's first
pub first_read : (f : Found) (id : Text) (r : Option (Bor Text)) (text : Bor Text) → option_map (λ (s : Bor Text). s.now) r ≡ first_value f id → r ≡ Some text → first_of id (rows_of f) ≡ Some text.now
first_read f id r text read is = sym (first_value-rows f id) ∙ (sym read ∙ ap (option_map (λ (s : Bor Text). s.now)) is)

-- a text that is no day gives none
pub no_day : (f : Found) (r : Option (Bor Text)) (text : Bor Text) → option_map (λ (s : Bor Text). s.now) r ≡ first_value f (codes "before") → r ≡ Some text → day_in text.now ≡ None
    → (before : Option ℤ) → GivesDay (rows_of f) before → ⊥
no_day f r text read is none None gives = let bad = sym (first_read f (codes "before") r text read is) ∙ gives in absurd (cc)
no_day f r text read is none (Some day) gives =
    let both = sym (first_read f (codes "before") r text read is) ∙ gives.1 in
    let same : text.now ≡ gives.0 = cc in
    let bad = sym none ∙ (ap day_in same ∙ gives.2) in
    absurd (cc)

-- a text that is no kind gives none
pub no_kind : (f : Found) (r : Option (Bor Text)) (text : Bor Text) → option_map (λ (s : Bor Text). s.now) r ≡ first_value f (codes "kind") → r ≡ Some text
    → ((kind : Kind) → text.now ≢ kind_text kind) → (kind : Option Kind) → GivesKind (rows_of f) kind → ⊥
no_kind f r text read is none None gives = let bad = sym (first_read f (codes "kind") r text read is) ∙ gives in absurd (cc)
no_kind f r text read is none (Some kind) gives =
    let both = sym (first_read f (codes "kind") r text read is) ∙ gives in
    let same : text.now ≡ kind_text kind = cc in
    none kind same

-- a flag that is read is given
pub flag_read : (E : Type 0) (f : Found) (flag : Text) (o : Option Text) (r : Option Bool) → one_text f flag ≡ o → (o ≡ None → r ≡ None)
    → ((t : Text) → o ≡ Some t → ReadsOne {E = E} ParsesBool t r) → IfSome r (GivesFlag (rows_of f) flag)
flag_read E f flag o None is none value = tt
flag_read E f flag None (Some given) is none value = let gone = none refl in absurd (cc)
flag_read E f flag (Some t) (Some true) is none value =
    let text : t ≡ codes "true" = value t refl in
    sym (one_text-rows f flag) ∙ (is ∙ ap Some text)
flag_read E f flag (Some t) (Some false) is none value =
    let text : t ≡ codes "false" = value t refl in
    sym (one_text-rows f flag) ∙ (is ∙ ap Some text)

-- and one that is not read is not
pub no_flag : (E : Type 0) (f : Found) (flag : Text) (r : Option Bool) → r ≡ None → ((t : Text) → one_text f flag ≡ Some t → ReadsOne {E = E} ParsesBool t r)
    → (given : Bool) → GivesFlag (rows_of f) flag given → ⊥
no_flag E f flag (Some b) is value given gives = absurd (cc)
no_flag E f flag None is value true gives = let failed : (e : E) × ((codes "true" ≢ true_text) × (codes "true" ≢ false_text)) = value (codes "true") (one_text-rows f flag ∙ gives) in failed.1.0 refl
no_flag E f flag None is value false gives = let failed : (e : E) × ((codes "false" ≢ true_text) × (codes "false" ≢ false_text)) = value (codes "false") (one_text-rows f flag ∙ gives) in failed.1.1 refl

-- a period that is not read is not given
pub no_through : (rows : List Row) → (first_of (codes "through") rows ≡ None → ⊥) → ((period : ℕ) → ¬ GivesPeriod rows (codes "through") period)
    → (through : Option ℕ) → ¬ GivesThrough rows through
no_through rows there none None gives = there gives
no_through rows there none (Some period) gives = none period gives

-- two names are not one
pub differ : (one other : Text) → bytes_eq one other ≡ false → one ≡ other → ⊥
differ one other apart same = let bad : true ≡ false = sym ((bytes_eq-Decides one other).1 same) ∙ apart in absurd (cc)

-- Where a text of the option spells a period, it is the one that is read.
pub period_read : (f : Found) (option : Text) (r : Option ℕ) (period : ℕ) → GivesPeriod (rows_of f) option period → ((u : Text) → one_text f option ≡ Some u → Reads 16 u r)
    → r ≡ Some period
period_read f option r period gives value =
    let small : period < 2 ^ 16 = omega (arith, gives.within) in
    no_number 16 option f r period gives.number small value

-- the first two letters of a name, as a number
abbrev letters : Text → ℕ
letters name = 256 * slice_index name 0 + slice_index name 1

abbrev pick : Bool → Type 0 → Type 0 → Type 0
pick true one other = one
pick false one other = other

-- what the options give to a subcommand whose name begins so
abbrev GivesAt : ℕ → List Row → Type 0
GivesAt n rows =
    pick (n == 29281) ((period : ℕ) × GivesPeriod rows (codes "period") period)
    (pick (n == 25448) ((kind : Option Kind) × GivesKind rows kind)
    (pick (n == 26217) ((period : ℕ) × GivesPeriod rows (codes "period") period)
    (pick (n == 29800) ((size : Size) × GivesSize rows size)
    (pick (n == 29544) ((asked : Asked) × GivesAsked rows asked)
    (pick (n == 29539) ((request : Request) × GivesRequest rows request) ⊤)))))

gives_at : (name : Text) (rows : List Row) (command : Command) → IsNamed name rows command → GivesAt (letters name) rows
gives_at name rows (Rate period) named = subst (λ (n : Text). GivesAt (letters n) rows) (sym named.0) (period, named.1)
gives_at name rows Play named = subst (λ (n : Text). GivesAt (letters n) rows) (sym named) tt
gives_at name rows (Check kind) named = subst (λ (n : Text). GivesAt (letters n) rows) (sym named.0) (kind, named.1)
gives_at name rows (File period) named = subst (λ (n : Text). GivesAt (letters n) rows) (sym named.0) (period, named.1)
gives_at name rows (Threads size) named = subst (λ (n : Text). GivesAt (letters n) rows) (sym named.0) (size, named.1)
gives_at name rows (Sheets asked) named = subst (λ (n : Text). GivesAt (letters n) rows) (sym named.0) (asked, named.1)
gives_at name rows (Schedule request) named = subst (λ (n : Text). GivesAt (letters n) rows) (sym named.0) (request, named.1)
gives_at name rows (Process process.Node) named = subst (λ (n : Text). GivesAt (letters n) rows) (sym named) tt
gives_at name rows (Process process.Agent) named = subst (λ (n : Text). GivesAt (letters n) rows) (sym named) tt
gives_at name rows Help named = absurd named
gives_at name rows Version named = absurd named

-- what is asked for by such a name is given
given_as : (name literal : Text) (rows : List Row) (command : Command) → name ≡ literal → IsNamed name rows command → GivesAt (letters literal) rows
given_as name literal rows command is named = subst (λ (n : Text). GivesAt (letters n) rows) is (gives_at name rows command named)

-- A subcommand whose options give nothing asks for nothing.
pub no_rate : (name : Text) (rows : List Row) → name ≡ codes "rate" → ((period : ℕ) → ¬ GivesPeriod rows (codes "period") period) → (command : Command) → ¬ IsNamed name rows command
no_rate name rows is none command named = let given = given_as name (codes "rate") rows command is named in none given.0 given.1

pub no_check : (name : Text) (rows : List Row) → name ≡ codes "check" → ((kind : Option Kind) → ¬ GivesKind rows kind) → (command : Command) → ¬ IsNamed name rows command
no_check name rows is none command named = let given = given_as name (codes "check") rows command is named in none given.0 given.1

pub no_file : (name : Text) (rows : List Row) → name ≡ codes "file" → ((period : ℕ) → ¬ GivesPeriod rows (codes "period") period) → (command : Command) → ¬ IsNamed name rows command
no_file name rows is none command named = let given = given_as name (codes "file") rows command is named in none given.0 given.1

pub no_threads : (name : Text) (rows : List Row) → name ≡ codes "threads" → ((size : Size) → ¬ GivesSize rows size) → (command : Command) → ¬ IsNamed name rows command
no_threads name rows is none command named = let given = given_as name (codes "threads") rows command is named in none given.0 given.1

pub no_sheets : (name : Text) (rows : List Row) → name ≡ codes "sheets" → ((asked : Asked) → ¬ GivesAsked rows asked) → (command : Command) → ¬ IsNamed name rows command
no_sheets name rows is none command named = let given = given_as name (codes "sheets") rows command is named in none given.0 given.1

pub no_schedule : (name : Text) (rows : List Row) → name ≡ codes "schedule" → ((request : Request) → ¬ GivesRequest rows request) → (command : Command) → ¬ IsNamed name rows command
no_schedule name rows is none command named = let given = given_as name (codes "schedule") rows command is named in none given.0 given.1

pub some_is_not_none : (n : ℕ) → None ≡ Some n → ⊥
some_is_not_none n same = absurd (cc)

pub one_number : (m n : ℕ) → Some m ≡ Some n → m ≡ n
one_number m n same = cc

pub is_none : {A : Type 0} (o : Option A) → ((a : A) → o ≡ Some a → ⊥) → o ≡ None
is_none None none = refl
is_none (Some a) none = absurd (none a refl)

-- Words that ask for a group ask for nothing else.
threads_named : (rows : List Row) (command : Command) → IsNamed (codes "threads") rows command → (other : Size) × (command ≡ Threads other)
threads_named rows (Rate period) named = absurd (differ (codes "threads") (codes "rate") refl named.0)
threads_named rows Play named = absurd (differ (codes "threads") (codes "play") refl named)
threads_named rows (Check kind) named = absurd (differ (codes "threads") (codes "check") refl named.0)
threads_named rows (File period) named = absurd (differ (codes "threads") (codes "file") refl named.0)
threads_named rows (Threads other) named = (other, refl)
threads_named rows (Sheets asked_of) named = absurd (differ (codes "threads") (codes "sheets") refl named.0)
threads_named rows (Schedule request) named = absurd (differ (codes "threads") (codes "schedule") refl named.0)
threads_named rows (Process process.Node) named = absurd (differ (codes "threads") (codes "node") refl named)
threads_named rows (Process process.Agent) named = absurd (differ (codes "threads") (codes "agent") refl named)
threads_named rows Help named = absurd named
threads_named rows Version named = absurd named

pub asks_for_threads : (words : List Text) (command : Command) (size : Size) → Asks words command → Asks words (Threads size) → (other : Size) × (command ≡ Threads other)
asks_for_threads words command size asked threads =
    threads_named threads.rows command (asked_is_named words (codes "threads") threads.rows command threads.taken (subst (λ (n : Text). subcommand_of grammar_of_focusd words ≡ Some (n, threads.rows)) threads.named.0 threads.met) asked)

-- What is done with the input is asked for by a name.
taken_of : (words : List Text) (command : Command) → Asks words command → takes_input command ≡ true → fault_of grammar_of_focusd words ≡ []
taken_of words Help asked takes = absurd (cc)
taken_of words Version asked takes = absurd (cc)
taken_of words (Threads size) asked takes = absurd (cc)
taken_of words (Rate period) asked takes = asked.taken
taken_of words Play asked takes = asked.taken
taken_of words (Check kind) asked takes = asked.taken
taken_of words (File period) asked takes = asked.taken
taken_of words (Sheets asked_of) asked takes = asked.taken
taken_of words (Schedule request) asked takes = asked.taken
taken_of words (Process kind) asked takes = asked.taken

-- what is done without is a group, help or the version
without_input : (command : Command) → takes_input command ≡ false → ((size : Size) × (command ≡ Threads size)) ⊎ ((command ≡ Help) ⊎ (command ≡ Version))
without_input (Threads size) none = inl (size, refl)
without_input Help none = inr (inl refl)
without_input Version none = inr (inr refl)
without_input (Rate period) none = absurd (cc)
without_input Play none = absurd (cc)
without_input (Check kind) none = absurd (cc)
without_input (File period) none = absurd (cc)
without_input (Sheets asked_of) none = absurd (cc)
without_input (Schedule request) none = absurd (cc)
without_input (Process kind) none = absurd (cc)

-- Words that ask for what is done with the input ask for nothing that is done without.
pub takes_or_not : (words : List Text) (command other : Command) → Asks words command → Asks words other → takes_input command ≡ true → takes_input other ≡ false → ⊥
takes_or_not words command other asked others takes none = neither_of (without_input other none)
  where
    no_request : fault_of grammar_of_focusd words ≡ [] → AsksForHelp words → ⊥
    no_request taken help = absurd (cc)

    no_version : fault_of grammar_of_focusd words ≡ [] → AsksForVersion words → ⊥
    no_version taken version = absurd (cc)

    neither_of : ((size : Size) × (other ≡ Threads size)) ⊎ ((other ≡ Help) ⊎ (other ≡ Version)) → ⊥
    neither_of (inl group) =
        let is = (asks_for_threads words command group.0 asked (subst (Asks words) group.1 others)).1 in
        let bad : true ≡ false = sym takes ∙ ap takes_input is in
        absurd (cc)
    neither_of (inr (inl is)) = no_request (taken_of words command asked takes) (subst (Asks words) is others)
    neither_of (inr (inr is)) = no_version (taken_of words command asked takes) (subst (Asks words) is others)
