use Rattle.std.proofs.Common.{◌≡◌, inl, inr, ℕ, List, ◌++◌, Result, Err, refl, subst, ◌∙◌}
use Rattle.std.specs.Io.KnownBytes.{Appends}
use Rattle.std.proofs.lemmas.Result.{IfErr-at_err, IfErr-weaker, IfOk-weaker}
use Rattle.counted_io.specs.Writing.{AppendsPrefix}
use Rattle.program_input.specs.declared.faults.PlayFault.{PlayFault}
use Rattle.program_input.specs.declared.faults.PlayFault.TheVariants.{OutOfMemory, Write}
use Rattle.fault_lines.proofs.checks.write_checked.Goals as goal

not_both : {A P : Type 0} → ◌≡◌ {A = Result A PlayFault} (Err OutOfMemory) (Err Write) → P
not_both is = absurd (cc)

wrong : {P : Type 0} → ◌≡◌ {A = PlayFault} OutOfMemory Write → P
wrong is = absurd (cc)

pub returns-in-Ok : goal.returns-in-Ok
returns-in-Ok g c =
    let said = g.C.Check.said_of c.args.check.now c.args.input.items ++ g.C.Check.warned_of c.args.check.now c.args.input.items in
    let text : c.deref.result.now ≡ said = c.deref.ensures.value ∙ c.in-Ok.ensures.said in
    record {
      said = IfOk-weaker c.write_said.result _ _
          (λ answer is. (subst (λ (t : List ℕ). Appends (g.W.Sink.contents c.args.writer.now) (g.W.Sink.contents c.write_said.new.writer) t) {y = said} text is.0, is.1 ∙ c.in-Ok.ensures.count)) c.write_said.ensures.said;
      prefix = λ is.
          subst (λ (t : List ℕ). AppendsPrefix (g.W.Sink.contents c.args.writer.now) (g.W.Sink.contents c.write_said.new.writer) t) {y = said} text (c.write_said.ensures.prefix is);
      fault = IfErr-weaker c.write_said.result _ _ (λ fault is. inl is) c.write_said.ensures.fault;
      memory = λ is. wrong (IfErr-at_err _ is c.write_said.ensures.fault);
      writes = c.write_said.ensures.writes;
    }

pub returns : goal.returns
returns g c = record { said = tt; prefix = λ is. not_both is; fault = inr refl; memory = λ is. refl; writes = refl }
