-- Which record a line's fields give, by their number and their letter.
use Rattle.std.proofs.Common.{◌≡◌, ◌≢◌, ℕ, ◌==◌, true, false, List, [], ◌∷◌, length, Result, Ok, Err, IfErr, Option, Some, None, is_some, ℤ, refl, sym, ap, subst, ◌∙◌, codes, ok_or}
use Rattle.std.specs.Option.{option_zip}
use Rattle.std.specs.Result.{IsErr, IsErrAnd}
use Rattle.std.proofs.lemmas.Option.{none-some, same_Some}
use Rattle.std.proofs.lemmas.Bool.{false≢true, and_parts, eqb-true}
use Rattle.metering_model.specs.FirstFailure.{◌>>=◌, holds_or}
use Rattle.metering_model.specs.declared.BatchCode.{BatchCode}
use Rattle.metering_model.specs.declared.BatchCode.TheVariants.{Fields, Time, Text, Tags}
use Rattle.metering_model.specs.declared.Kind.{Kind}
use Rattle.metering_model.specs.Batch.{Tag, Reads, is_text}
use Rattle.metering_model.specs.declared.Version.{Version}
use Rattle.metering_model.specs.declared.Version.TheVariants.{B1, B2}
use Rattle.metering_model.specs.Dates.{stamp_in}
use Rattle.metering_model.specs.BatchReading.{is_same, kind_in, tags_in, record_in}
use Rattle.metering_model.proofs.FieldLaws.{same_read}
use Rattle.metering_model.proofs.RegionLaws.{amended_alike}
use Rattle.record_view.specs.Inner.RecordSteps.{kind_step, stamp_step, order_step, text_step, key_step, value_step, sign_step, commitment_step, tags_step, whole_step, reading_in, amendment_in}

pub nine_fields : (letter start end account resource key value commitment tags : List ℕ)
    → record_in B1 (letter ∷ start ∷ end ∷ account ∷ resource ∷ key ∷ value ∷ commitment ∷ tags ∷ [])
    ≡ reading_in letter start end account resource key value commitment tags
unfolding reading_in kind_step stamp_step order_step text_step key_step value_step sign_step commitment_step tags_step
nine_fields letter start end account resource key value commitment tags = refl

pub four_fields : (letter seq index value : List ℕ) → is_same letter (codes "X") ≡ true → record_in B1 (letter ∷ seq ∷ index ∷ value ∷ []) ≡ amendment_in seq index value
unfolding amendment_in whole_step value_step
four_fields letter seq index value h = ap (λ b. holds_or b Fields >>= (λ _. amendment_in seq index value)) h

-- four fields without the letter of an amendment
pub four_others : (letter seq index value : List ℕ) → is_same letter (codes "X") ≡ false → record_in B1 (letter ∷ seq ∷ index ∷ value ∷ []) ≡ Err Fields
unfolding amendment_in whole_step value_step
four_others letter seq index value h = ap (λ b. holds_or b Fields >>= (λ _. amendment_in seq index value)) h

-- a reading whose fields all meet their rules
pub all_steps : (letter start end account resource key value commitment tags : List ℕ) (k : Kind) (s e : ℤ) (v : ℤ) (ts : List Tag)
    → kind_step letter ≡ Ok k → stamp_step start ≡ Ok s → stamp_step end ≡ Ok e → order_step s e ≡ Ok tt → text_step account ≡ Ok tt
    → text_step resource ≡ Ok tt → key_step key ≡ Ok tt → value_step value ≡ Ok v → sign_step k v ≡ Ok tt
    → commitment_step k commitment ≡ Ok tt → tags_step tags ≡ Ok ts
    → reading_in letter start end account resource key value commitment tags ≡ Ok (Reads (record {
      kind = k;
      start = s;
      end = e;
      start_text = start;
      end_text = end;
      account = account;
      resource = resource;
      key = key;
      value = v;
      commitment = commitment;
      tags = ts;
      region = None;
    }))
unfolding reading_in
all_steps letter start end account resource key value commitment tags k s e v ts h1 h2 h3 h4 h5 h6 h7 h8 h9 h10 h11 =
    rw h1 (rw h2 (rw h3 (rw h4 (rw h5 (rw h6 (rw h7 (rw h8 (rw h9 (rw h10 (rw h11 refl))))))))))

-- ---- a reading whose field is the first that breaks its rule

pub kind_broken : (letter start end account resource key value commitment tags : List ℕ) (b : BatchCode)
    → kind_step letter ≡ Err b
    → reading_in letter start end account resource key value commitment tags ≡ Err b
unfolding reading_in
kind_broken letter start end account resource key value commitment tags b h = rw h refl

pub start_broken : (letter start end account resource key value commitment tags : List ℕ) (k : Kind) (b : BatchCode)
    → kind_step letter ≡ Ok k → stamp_step start ≡ Err b
    → reading_in letter start end account resource key value commitment tags ≡ Err b
unfolding reading_in
start_broken letter start end account resource key value commitment tags k b h1 h = rw h1 (rw h refl)

pub end_broken : (letter start end account resource key value commitment tags : List ℕ) (k : Kind) (s : ℤ) (b : BatchCode)
    → kind_step letter ≡ Ok k → stamp_step start ≡ Ok s → stamp_step end ≡ Err b
    → reading_in letter start end account resource key value commitment tags ≡ Err b
unfolding reading_in
end_broken letter start end account resource key value commitment tags k s b h1 h2 h = rw h1 (rw h2 (rw h refl))

pub order_broken : (letter start end account resource key value commitment tags : List ℕ) (k : Kind) (s e : ℤ) (b : BatchCode)
    → kind_step letter ≡ Ok k → stamp_step start ≡ Ok s → stamp_step end ≡ Ok e → order_step s e ≡ Err b
    → reading_in letter start end account resource key value commitment tags ≡ Err b
unfolding reading_in
order_broken letter start end account resource key value commitment tags k s e b h1 h2 h3 h = rw h1 (rw h2 (rw h3 (rw h refl)))

pub resource_broken : (letter start end account resource key value commitment tags : List ℕ) (k : Kind) (s e : ℤ) (b : BatchCode)
    → kind_step letter ≡ Ok k → stamp_step start ≡ Ok s → stamp_step end ≡ Ok e → order_step s e ≡ Ok tt → text_step account ≡ Ok tt → text_step resource ≡ Err b
    → reading_in letter start end account resource key value commitment tags ≡ Err b
unfolding reading_in
resource_broken letter start end account resource key value commitment tags k s e b h1 h2 h3 h4 h5 h = rw h1 (rw h2 (rw h3 (rw h4 (rw h5 (rw h refl)))))

pub key_broken : (letter start end account resource key value commitment tags : List ℕ) (k : Kind) (s e : ℤ) (b : BatchCode)
    → kind_step letter ≡ Ok k → stamp_step start ≡ Ok s → stamp_step end ≡ Ok e → order_step s e ≡ Ok tt → text_step account ≡ Ok tt → text_step resource ≡ Ok tt → key_step key ≡ Err b
    → reading_in letter start end account resource key value commitment tags ≡ Err b
unfolding reading_in
key_broken letter start end account resource key value commitment tags k s e b h1 h2 h3 h4 h5 h6 h = rw h1 (rw h2 (rw h3 (rw h4 (rw h5 (rw h6 (rw h refl))))))

pub value_broken : (letter start end account resource key value commitment tags : List ℕ) (k : Kind) (s e : ℤ) (b : BatchCode)
    → kind_step letter ≡ Ok k → stamp_step start ≡ Ok s → stamp_step end ≡ Ok e → order_step s e ≡ Ok tt → text_step account ≡ Ok tt → text_step resource ≡ Ok tt → key_step key ≡ Ok tt → value_step value ≡ Err b
    → reading_in letter start end account resource key value commitment tags ≡ Err b
unfolding reading_in
value_broken letter start end account resource key value commitment tags k s e b h1 h2 h3 h4 h5 h6 h7 h = rw h1 (rw h2 (rw h3 (rw h4 (rw h5 (rw h6 (rw h7 (rw h refl)))))))

pub sign_broken : (letter start end account resource key value commitment tags : List ℕ) (k : Kind) (s e : ℤ) (v : ℤ) (b : BatchCode)
    → kind_step letter ≡ Ok k → stamp_step start ≡ Ok s → stamp_step end ≡ Ok e → order_step s e ≡ Ok tt → text_step account ≡ Ok tt → text_step resource ≡ Ok tt → key_step key ≡ Ok tt → value_step value ≡ Ok v → sign_step k v ≡ Err b
    → reading_in letter start end account resource key value commitment tags ≡ Err b
unfolding reading_in
sign_broken letter start end account resource key value commitment tags k s e v b h1 h2 h3 h4 h5 h6 h7 h8 h = rw h1 (rw h2 (rw h3 (rw h4 (rw h5 (rw h6 (rw h7 (rw h8 (rw h refl))))))))

pub commitment_broken : (letter start end account resource key value commitment tags : List ℕ) (k : Kind) (s e : ℤ) (v : ℤ) (b : BatchCode)
    → kind_step letter ≡ Ok k → stamp_step start ≡ Ok s → stamp_step end ≡ Ok e → order_step s e ≡ Ok tt → text_step account ≡ Ok tt → text_step resource ≡ Ok tt → key_step key ≡ Ok tt → value_step value ≡ Ok v → sign_step k v ≡ Ok tt → commitment_step k commitment ≡ Err b
    → reading_in letter start end account resource key value commitment tags ≡ Err b
unfolding reading_in
commitment_broken letter start end account resource key value commitment tags k s e v b h1 h2 h3 h4 h5 h6 h7 h8 h9 h = rw h1 (rw h2 (rw h3 (rw h4 (rw h5 (rw h6 (rw h7 (rw h8 (rw h9 (rw h refl)))))))))

pub tags_broken : (letter start end account resource key value commitment tags : List ℕ) (k : Kind) (s e : ℤ) (v : ℤ) (b : BatchCode)
    → kind_step letter ≡ Ok k → stamp_step start ≡ Ok s → stamp_step end ≡ Ok e → order_step s e ≡ Ok tt → text_step account ≡ Ok tt → text_step resource ≡ Ok tt → key_step key ≡ Ok tt → value_step value ≡ Ok v → sign_step k v ≡ Ok tt → commitment_step k commitment ≡ Ok tt → tags_step tags ≡ Err b
    → reading_in letter start end account resource key value commitment tags ≡ Err b
unfolding reading_in
tags_broken letter start end account resource key value commitment tags k s e v b h1 h2 h3 h4 h5 h6 h7 h8 h9 h10 h = rw h1 (rw h2 (rw h3 (rw h4 (rw h5 (rw h6 (rw h7 (rw h8 (rw h9 (rw h10 (rw h refl))))))))))

-- ---- what `?` hands on

-- the fault that `?` hands on
pub handed_on : {A E : Type 0} (P : E → Type 0) (r : Result A E) (fault : E) → IsErr r × IsErrAnd r (λ e. e ≡ fault) → P fault → IfErr r P
handed_on P (Ok x) fault told h = tt
handed_on P (Err e) fault told h = subst P (sym told.1) h

-- ---- steps that are met

pub stamp_met : (t : List ℕ) (n : ℤ) → stamp_step t ≡ Ok n → is_some (stamp_in t) ≡ true
unfolding stamp_step
stamp_met t n h = by_stamp (stamp_in t) h
  where
    by_stamp : (o : Option ℤ) → ok_or o Time ≡ Ok n → is_some o ≡ true
    by_stamp None e = absurd (cc)
    by_stamp (Some m) e = refl

-- two stamps that were read together
pub stamps_read : (s e : List ℕ) (p : ℤ × ℤ) → Some p ≡ option_zip (stamp_in s) (stamp_in e) → (stamp_step s ≡ Ok p.0) × (stamp_step e ≡ Ok p.1)
unfolding stamp_step
stamps_read s e p h = by_stamps (stamp_in s) (stamp_in e) h
  where
    by_stamps : (a b : Option ℤ) → Some p ≡ option_zip a b → (ok_or a Time ≡ Ok p.0) × (ok_or b Time ≡ Ok p.1)
    by_stamps None b h = absurd (none-some p (sym h))
    by_stamps (Some x) None h = absurd (none-some p (sym h))
    by_stamps (Some x) (Some y) h =
        let same = same_Some p (x, y) h in
        (ap (λ q. Ok q.0) (sym same), ap (λ q. Ok q.1) (sym same))

pub text_met : (t : List ℕ) → is_text t ≡ true → text_step t ≡ Ok tt
unfolding text_step
text_met t h = ap (λ b. holds_or b Text) h

pub text_broken : (t : List ℕ) → is_text t ≡ false → text_step t ≡ Err Text
unfolding text_step
text_broken t h = ap (λ b. holds_or b Text) h

pub tags_met : (t : List ℕ) (ts : List Tag) → tags_in t ≡ Some ts → tags_step t ≡ Ok ts
unfolding tags_step
tags_met t ts h = ap (λ o. ok_or o Tags) h

-- the letter of an amendment is that of no kind
amendment_letter : (letter : List ℕ) → is_same letter (codes "X") ≡ true → kind_in letter ≡ None
amendment_letter [] h = refl
amendment_letter (c ∷ []) h = ap (λ x. kind_in (x ∷ [])) (eqb-true c 88 (and_parts (c == 88) true h).0)
amendment_letter (c ∷ d ∷ ds) h = absurd (false≢true (and_parts (c == 88) false h).1)

-- a kind's letter comes first
no_kind : (letter start end account resource key value commitment tags : List ℕ) → kind_step letter ≡ Err Fields
    → reading_in letter start end account resource key value commitment tags ≡ Err Fields
unfolding reading_in
no_kind letter start end account resource key value commitment tags h = rw h refl

not_a_kind : (letter : List ℕ) → is_same letter (codes "X") ≡ true → kind_step letter ≡ Err Fields
unfolding kind_step
not_a_kind letter h = ap (λ k. ok_or k Fields) (amendment_letter letter h)

-- the letter of an amendment, and not three fields behind it
pub no_amendment : (letter : List ℕ) (rest : List (List ℕ)) → is_same letter (codes "X") ≡ true → length rest ≢ 3 → record_in B1 (letter ∷ rest) ≡ Err Fields
no_amendment letter [] h ne = refl
no_amendment letter (a ∷ []) h ne = refl
no_amendment letter (a ∷ b ∷ []) h ne = refl
no_amendment letter (a ∷ b ∷ c ∷ []) h ne = absurd (ne refl)
no_amendment letter (a ∷ b ∷ c ∷ d ∷ []) h ne = refl
no_amendment letter (a ∷ b ∷ c ∷ d ∷ e ∷ []) h ne = refl
no_amendment letter (a ∷ b ∷ c ∷ d ∷ e ∷ f ∷ []) h ne = refl
no_amendment letter (a ∷ b ∷ c ∷ d ∷ e ∷ f ∷ g ∷ []) h ne = refl
no_amendment letter (a ∷ b ∷ c ∷ d ∷ e ∷ f ∷ g ∷ i ∷ []) h ne =
    nine_fields letter a b c d e f g i ∙ no_kind letter a b c d e f g i (not_a_kind letter h)
no_amendment letter (a ∷ b ∷ c ∷ d ∷ e ∷ f ∷ g ∷ i ∷ j ∷ []) h ne = refl
no_amendment letter (a ∷ b ∷ c ∷ d ∷ e ∷ f ∷ g ∷ i ∷ j ∷ k ∷ rest) h ne = refl

-- an amendment's line is read alike in both formats
pub amended : (version : Version) (letter : List ℕ) (rest : List (List ℕ)) → is_same letter (codes "X") ≡ true → record_in B1 (letter ∷ rest) ≡ record_in version (letter ∷ rest)
amended B1 letter rest h = refl
amended B2 letter rest h =
    let same = same_read letter (codes "X") h in
    ap (λ l. record_in B1 (l ∷ rest)) same ∙ (sym (amended_alike rest) ∙ ap (λ l. record_in B2 (l ∷ rest)) (sym same))

-- another letter, and not eight fields behind it
pub no_reading : (letter : List ℕ) (rest : List (List ℕ)) → is_same letter (codes "X") ≡ false → length rest ≢ 8 → record_in B1 (letter ∷ rest) ≡ Err Fields
no_reading letter [] h ne = refl
no_reading letter (a ∷ []) h ne = refl
no_reading letter (a ∷ b ∷ []) h ne = refl
no_reading letter (a ∷ b ∷ c ∷ []) h ne = four_others letter a b c h
no_reading letter (a ∷ b ∷ c ∷ d ∷ []) h ne = refl
no_reading letter (a ∷ b ∷ c ∷ d ∷ e ∷ []) h ne = refl
no_reading letter (a ∷ b ∷ c ∷ d ∷ e ∷ f ∷ []) h ne = refl
no_reading letter (a ∷ b ∷ c ∷ d ∷ e ∷ f ∷ g ∷ []) h ne = refl
no_reading letter (a ∷ b ∷ c ∷ d ∷ e ∷ f ∷ g ∷ i ∷ []) h ne = absurd (ne refl)
no_reading letter (a ∷ b ∷ c ∷ d ∷ e ∷ f ∷ g ∷ i ∷ j ∷ []) h ne = refl
no_reading letter (a ∷ b ∷ c ∷ d ∷ e ∷ f ∷ g ∷ i ∷ j ∷ k ∷ rest) h ne = refl
