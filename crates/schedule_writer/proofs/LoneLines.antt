-- A first line that is no head of a batch stands by itself.
use Rattle.std.proofs.Common.{◌≡◌, ◌≤◌, ℕ, ◌+◌, cond, nat_eq, Bool, true, false, List, [], ◌∷◌, ◌++◌, length, take, drop, Option, Some, None, Result, Ok, Err, ok_or, refl, sym, ap, ◌∙◌, ⊎_elim, arith, length-take}
use Rattle.std.specs.List.{position}
use Rattle.std.specs.Option.{option_and_then, option_map}
use Rattle.std.specs.Result.{result_ok}
use Rattle.std.proofs.lemmas.Bool.{cases_lt}
use Rattle.std.proofs.lemmas.List.{append-nil, length-append}
use Rattle.metering_model.specs.Batch.{Batch}
use Rattle.metering_model.specs.declared.BatchCode.{BatchCode}
use Rattle.metering_model.specs.declared.BatchCode.TheVariants.{Head}
use Rattle.metering_model.specs.declared.BatchFault.{BatchFault}
use Rattle.metering_model.specs.declared.Version.{Version}
use Rattle.metering_model.specs.BatchReading.{HeadLine, batch_in, fields_in, head_in, lines_in, version_in, whole_in}
use Rattle.metering_model.specs.FirstFailure.{◌>>=◌}
use Rattle.metering_model.specs.Schedule.{lines_text}
use Rattle.byte_text.proofs.LineLemmas.{lines_at_feed, lines_without_feed}
use Rattle.byte_text.proofs.PastLines.{front_length, same_front}
use Rattle.batch_view.specs.Extents.{batch_length, counted}
use Rattle.batch_view.proofs.BatchLemmas.{head_fault, no_first_line, too_long}
use Rattle.schedule_writer.specs.Inputs.{head_text, is_head_code, lacks_head, offered_length, through_feed}

-- ---- a line that counts nothing

abbrev head_of : (v : Option Version) (a s n : Option ℕ) → Result HeadLine BatchCode
head_of v a s n = ok_or v Head >>= λ v. ok_or a Head >>= λ a. ok_or s Head >>= λ s. ok_or n Head >>= λ n. let h : HeadLine = record { version = v; agent = a; seq = s; count = n } in Ok h

no_head : (fs : List (List ℕ)) → result_ok (head_in fs) ≡ None → head_in fs ≡ Err Head
no_head [] is = refl
no_head (_ ∷ []) is = refl
no_head (_ ∷ _ ∷ []) is = refl
no_head (_ ∷ _ ∷ _ ∷ []) is = refl
no_head (version ∷ agent ∷ seq ∷ count ∷ []) is = by_parts (version_in version) (whole_in 1 64 agent) (whole_in 1 1_000_000 seq) (whole_in 0 1_000 count) is
  where
    by_parts : (v : Option Version) (a s n : Option ℕ) → result_ok (head_of v a s n) ≡ None → head_of v a s n ≡ Err Head
    by_parts None a s n so = refl
    by_parts (Some v) None s n so = refl
    by_parts (Some v) (Some a) None n so = refl
    by_parts (Some v) (Some a) (Some s) None so = refl
    by_parts (Some v) (Some a) (Some s) (Some n) so = absurd (cc)
no_head (_ ∷ _ ∷ _ ∷ _ ∷ _ ∷ more) is = refl

not_counted : (o : Option HeadLine) → option_map (λ head. head.count + 1) o ≡ None → o ≡ None
not_counted None is = refl
not_counted (Some head) is = absurd (cc)

-- ---- the text of such a line

abbrev lacks : Result Batch BatchFault → Bool
lacks r = elim r [ Ok b ↦ false | Err fault ↦ is_head_code fault.code ]

-- it is no batch, however long it is
however_long : (t : List ℕ) → (length t ≤ 65_536 → batch_in t ≡ Err (record { code = Head; line = 1 })) → lacks (batch_in t) ≡ true
however_long t short = ⊎_elim (λ long. ap lacks (too_long t long)) (λ fits. ap lacks (short fits)) (cases_lt 65_536 (length t))

-- it has that line alone
one_line : (text : List ℕ) (i : ℕ) → position (λ c. nat_eq c 10) text ≡ Some i → (lines_in (take (i + 1) text)).lines ≡ take i text ∷ []
one_line text i found =
    let at = lines_at_feed text i found in
    let first : take 1 (lines_in text).lines ≡ take i text ∷ [] = ap (λ ls. take 1 ls.lines) at.1 in
    let within = at.0 in
    let upto : front_length 1 text ≡ i + 1
    = ap (λ ls. length (lines_text ls)) first
    ∙ (length-append (take i text ++ 10 ∷ []) [] ∙ omega (arith, length-append (take i text) (10 ∷ []), within, length-take i text)) in
    ap (λ n. (lines_in (take n text)).lines) (sym upto)
    ∙ (ap (λ t. (lines_in t).lines) (sym (append-nil (take (front_length 1 text) text)))
    ∙ (ap (λ ls. ls.lines) (same_front 1 text []) ∙ (append-nil (take 1 (lines_in text).lines) ∙ first)))

pub lone_line : (text : List ℕ) → counted (lines_in text).lines ≡ None → offered_length text ≡ length (head_text text)
unfolding offered_length
lone_line text none =
    ap (λ (o : Option ℕ). elim o [ Some n ↦ n | None ↦ cond (lacks_head text) (length (head_text text)) (length text) ]) (ap (option_and_then (batch_length (lines_in text).lines)) none)
    ∙ ap (λ b. cond b (length (head_text text)) (length text)) (by_feed (position (λ c. nat_eq c 10) text) refl)
  where
    by_feed : (o : Option ℕ) → position (λ c. nat_eq c 10) text ≡ o → lacks (batch_in (through_feed o text)) ≡ true
    by_feed None found = however_long text (λ short. no_first_line text short (ap (λ ls. ls.lines) (lines_without_feed text found)))
    by_feed (Some i) found =
        let counts : counted (take i text ∷ drop 1 (lines_in text).lines) ≡ None = ap counted (sym (first_is (lines_at_feed text i found).1)) ∙ none in
        let bad = no_head (fields_in (take i text)) (not_counted (result_ok (head_in (fields_in (take i text)))) counts) in
        let alone = one_line text i found in
        however_long (take (i + 1) text) (λ short.
        head_fault (take (i + 1) text) (take i text) short (alone ∙ ap (λ ls. take i text ∷ ls) (sym (ap (drop 1) alone))) bad)
      where
        first_is : lines_in text ≡ record { lines = take i text ∷ (lines_in (drop (i + 1) text)).lines; rest = (lines_in (drop (i + 1) text)).rest }
            → (lines_in text).lines ≡ take i text ∷ drop 1 (lines_in text).lines
        first_is is = ap (λ ls. ls.lines) is ∙ ap (λ ls. take i text ∷ drop 1 ls.lines) (sym is)
