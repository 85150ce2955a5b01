use Rattle.std.proofs.Common.{◌≡◌, ℕ, ◌<◌, ◌==◌, true, false, List, [], ◌∷◌, length, Option, Some, None, Err, MatchOption, refl, sym, ap, ◌∙◌, arith}
use Rattle.std.specs.Option.{is_some}
use Rattle.std.proofs.lemmas.List.Splits.{length-slice_split}
use Rattle.metering_model.specs.declared.BatchCode.TheVariants.{Head}
use Rattle.metering_model.specs.BatchReading.{fields_in, head_in}
use Rattle.batch_view.proofs.head.head_fields.Goals as goal

at_none : {A : Type 0} (o : Option A) (P : Type 0) (Q : A → Type 0) → MatchOption o P Q → is_some o ≡ false → P
at_none None P Q h e = h
at_none (Some x) P Q h e = absurd (cc)

at_some : {A : Type 0} (o : Option A) (P : Type 0) (Q : A → Type 0) → MatchOption o P Q → is_some o ≡ true → (x : A) × Q x
at_some None P Q h e = absurd (cc)
at_some (Some x) P Q h e = (x, h)

too_many : (v a s n : List ℕ) (more : List (List ℕ)) → 0 < length more → head_in (v ∷ a ∷ s ∷ n ∷ more) ≡ Err Head
too_many v a s n [] some = absurd (omega arith)
too_many v a s n (m ∷ ms) some = refl

pub returns-then-is_some : goal.returns-then-is_some
returns-then-is_some c =
    let last = at_some c.split_at_bar-4.result _ _ c.split_at_bar-4.ensures (sym c.is_some.ensures ∙ c.if-is_some.true) in
    let more = length-slice_split (λ (x : ℕ). x == 124) last.0.1.now in
    let fields : fields_in c.args.line.now ≡ c.in_ok-version.version.now ∷ c.in_ok-agent.agent.now ∷ c.in_ok-seq.seq.now ∷ last.0.0.now ∷ fields_in last.0.1.now = cc (c.in_ok-version.ensures, c.in_ok-agent.ensures, c.in_ok-seq.ensures, last.1) in
    ap head_in fields ∙ too_many c.in_ok-version.version.now c.in_ok-agent.agent.now c.in_ok-seq.seq.now last.0.0.now (fields_in last.0.1.now) (omega (arith, more))

pub returns : goal.returns
returns c =
    let last = at_none c.split_at_bar-4.result _ _ c.split_at_bar-4.ensures (sym c.is_some.ensures ∙ c.if-is_some.false) in
    cc (c.in_ok-version.ensures, c.in_ok-agent.ensures, c.in_ok-seq.ensures, last)
