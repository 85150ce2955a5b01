use Rattle.std.proofs.Common.{◌≡◌, true, ap, sym, ◌∙◌}
use Rattle.metering_model.specs.KeptText.{KeptAmong}
use Rattle.group_process.specs.Journals.{keeps_journal_of}
use Rattle.group_process.specs.Selves.{AgentSelf}
use Rattle.group_process.proofs.JournalLaws.{journal_alone}
use Rattle.group_process.proofs.agents.AgentProcess.go_on.Goals as goal

pub invariant_of-result : goal.invariant_of-result
invariant_of-result c =
    let same = c.into_parts-kept.ensures.value in
    let alone = journal_alone c.args.number c.into_parts-kept.result.kept (sym c.keeps_journal_of.ensures ∙ c.if-keeps_journal_of.true) in
    (ap (λ (k : KeptAmong). k.agents) same ∙ c.requires.kept, alone.0, alone.1, record { number = (c.requires.from, c.requires.to) })

pub returns-then-keeps_journal_of : goal.returns-then-keeps_journal_of
returns-then-keeps_journal_of c =
    let same = c.into_parts-kept.ensures.value in
    let told = λ (k : KeptAmong). keeps_journal_of c.args.number k.kept in
    let with : KeptAmong → AgentSelf = λ k. record { group = c.args.group; number = c.args.number; journal = k.kept.holding } in
    let is : keeps_journal_of c.args.number c.args.kept.kept ≡ true = sym (ap told same) ∙ (sym c.keeps_journal_of.ensures ∙ c.if-keeps_journal_of.true) in
    (ap with same, (journal_alone c.args.number c.args.kept.kept is).0, is)

pub returns-else-keeps_journal_of : goal.returns-else-keeps_journal_of
returns-else-keeps_journal_of c =
    sym (ap (λ (k : KeptAmong). keeps_journal_of c.args.number k.kept) c.into_parts-kept.ensures.value) ∙ (sym c.keeps_journal_of.ensures ∙ c.if-keeps_journal_of.false)
