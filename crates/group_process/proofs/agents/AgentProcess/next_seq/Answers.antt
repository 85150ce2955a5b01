use Rattle.std.proofs.Common.{◌≡◌, true, ap, subst, sym, ◌∙◌}
use Rattle.metering_model.specs.JournalRules.{next_seq}
use Rattle.metering_model.specs.KeptText.{KeptAmong}
use Rattle.group_process.specs.Journals.{is_journal_of}
use Rattle.group_process.specs.Selves.{AgentSelf}
use Rattle.group_process.proofs.JournalLaws.{absent_is_next}
use Rattle.group_process.proofs.agents.AgentProcess.next_seq.Goals as goal

pub returns-clause-next : goal.returns-clause-next
returns-clause-next c =
    let number = c.self.inside.number in
    let same = ap (λ (k : KeptAmong). k.kept.holding) c.kept.view_is in
    let seen = ap (λ (a : AgentSelf). next_seq a.journal a.number) c.self.view_is in
    let is = subst (λ h. is_journal_of number h ≡ true) (sym same) c.self.invariant.2 in
    let found = c.first_absent.ensures in
    absent_is_next number _ c.first_absent.result is found.absent found.range.0 found.below ∙ (ap (λ h. next_seq h number) same ∙ seen)
