use Rattle.std.proofs.Common.{◌≡◌, ◌++◌, [], List, ℕ, Err, OnOk, refl, sym, ap, subst, ◌∙◌, append-nil}
use Rattle.metering_model.specs.declared.Refusal.TheVariants.{BadBatch}
use Rattle.batch_view.specs.Batches.{batch_of}
use Rattle.sheet_text.specs.Samples.{sample_issuer}
use Rattle.batch_player.proofs.JournaledLaws.{no_batch}
use Rattle.input_check.proofs.EventWords.{no_fault_alone}
use Rattle.input_check.proofs.SaidLaws.{in_any_case, refused_batch, taken_batch}
use Rattle.fault_lines.proofs.KeysOnLine.{still}
use Rattle.input_check.proofs.WarnedLaws.{refused_batch_warned, taken_batch_warned}
use Rattle.input_check.proofs.ratings.check_batch.Goals as goal

pub returns-in-Err : goal.returns-in-Err
returns-in-Err c =
    let fault = c.in-Err.fault in
    let text = c.args.text.now in
    record {
      said = λ issuer.
          let refused = no_batch c.args.sheet.now issuer text fault c.in-Err.ensures.err in
          let said = sym (refused_batch c.args.sheet.now issuer c.args.lines text (BadBatch fault) refused) in
          subst (λ (t : List ℕ). OnOk c.put_refused_text.result (c.put_refused_text.new.told.items ≡ c.args.told.now.items ++ t)) said c.put_refused_text.ensures;
      ahead = λ issuer.
          let refused = no_batch c.args.sheet.now issuer text fault c.in-Err.ensures.err in
          in_any_case c.put_refused_text.result
          (still c.args.warned.now.items _ (refused_batch_warned c.args.sheet.now issuer c.args.lines text (BadBatch fault) refused));
    }

pub returns-in-None : goal.returns-in-None
returns-in-None c =
    let told = c.args.told.now.items in
    record {
      said = λ issuer.
          let taken = rw c.in-Ok.ensures.ok.0 at (c.in-None.ensures.journaled refl issuer) in
          in_any_case c.put_ahead.result (sym (ap (λ t. told ++ t) (taken_batch c.args.sheet.now issuer c.args.lines c.args.text.now _ taken) ∙ append-nil told));
      ahead = λ issuer.
          let taken = rw c.in-Ok.ensures.ok.0 at (c.in-None.ensures.journaled refl issuer) in
          let ahead = rw c.in-Ok.ensures.ok.0 at (c.put_ahead.ensures.said [] c.none.ensures) in
          subst (λ (t : List ℕ). OnOk c.put_ahead.result (c.put_ahead.new.told.items ≡ c.args.warned.now.items ++ t))
          (sym (taken_batch_warned c.args.sheet.now issuer c.args.lines c.args.text.now _ taken)) ahead;
    }

pub returns-in-Some : goal.returns-in-Some
returns-in-Some c =
    let why = c.in-Some.refusal in
    record {
      said = λ issuer.
          let refused = rw c.in-Ok.ensures.ok.0 at (c.in-Some.ensures.refused why refl issuer) in
          let bad = rw c.in-Ok.ensures.ok.0 at c.bad_alone-bad.ensures in
          let said = sym (refused_batch c.args.sheet.now issuer c.args.lines c.args.text.now why refused) in
          subst (λ (t : List ℕ). OnOk c.put_refused_text-in-Some.result (c.put_refused_text-in-Some.new.told.items ≡ c.args.told.now.items ++ t)) said
          (rw bad at c.put_refused_text-in-Some.ensures);
      ahead = λ issuer.
          let refused = rw c.in-Ok.ensures.ok.0 at (c.in-Some.ensures.refused why refl issuer) in
          in_any_case c.put_refused_text-in-Some.result
          (still c.args.warned.now.items _ (refused_batch_warned c.args.sheet.now issuer c.args.lines c.args.text.now why refused));
    }

pub put_refused_text-requires-in-Some : goal.put_refused_text-requires-in-Some
put_refused_text-requires-in-Some c = λ fault same.
    let refused = rw c.in-Ok.ensures.ok.0 at (c.in-Some.ensures.refused c.in-Some.refusal refl sample_issuer) in
    absurd (no_fault_alone c.args.sheet.now sample_issuer (batch_of c.args.text.now) c.args.text.now fault c.in-Ok.ensures.ok.1 (refused ∙ ap Err same))
