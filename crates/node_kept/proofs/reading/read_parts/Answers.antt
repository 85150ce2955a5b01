use Rattle.std.proofs.Common.{◌≡◌, ◌+◌, map, Ok, Err, sym, ap, subst, ◌∙◌, arith}
use Rattle.std.specs.Arc.{arc_value}
use Rattle.std.proofs.lemmas.List.{length-map}
use Rattle.std.proofs.lemmas.Result.{err_from_is_err_and}
use Rattle.metering_model.specs.BatchReading.{lines_in}
use Rattle.metering_model.specs.KeptText.{cuts_in}
use Rattle.metering_model.proofs.KeptLines.{cuts_read}
use Rattle.node_kept.specs.Inner.Head.{head_of}
use Rattle.node_kept.specs.Inner.Left.{AreCutsOf}
use Rattle.node_kept.proofs.ReadSteps.{told_so}
use Rattle.node_kept.proofs.WholeTexts.{cuts_fault, batches_fault, extra_fault, all_read, empty_by_length}
use Rattle.node_kept.proofs.reading.read_parts.Goals as goal

pub returns-then-not-is_empty : goal.returns-then-not-is_empty
returns-then-not-is_empty c =
    let head = c.args.head in
    let cuts = map arc_value c.in_ok-cuts.cuts.items in
    let below = c.in_ok-cuts.rest.now in
    let vote = c.cuts_of_vote.ensures.value in
    let first = ap (λ n. 2 + n) (c.from-first.ensures ∙ ap (λ n. head.learned + n) vote) in
    let are = subst (λ n. AreCutsOf c.args.text.now 2 head.agents (head.learned + n) cuts below) vote c.in_ok-cuts.ensures in
    let left = c.in_ok-store.rest.now in
    extra_fault c.args.text.now (head_of head) cuts below _ first are c.in_ok-store.store.batches c.in_ok-store.line left c.in_ok-store.ensures.0
    (empty_by_length left ∙ sym c.is_empty.ensures ∙ c.if-not-is_empty.true)

pub parts_of-requires-clause-cuts : goal.parts_of-requires-clause-cuts
parts_of-requires-clause-cuts c =
    let head = c.args.head in
    sym (length-map c.in_ok-cuts.cuts.items arc_value)
    ∙ (cuts_read 2 head.agents _ _ _ c.in_ok-cuts.ensures.read).1
    ∙ ap (λ n. head.learned + n) c.cuts_of_vote.ensures.value

pub parts_of-requires-clause-agents : goal.parts_of-requires-clause-agents
parts_of-requires-clause-agents c = c.in_ok-store.ensures.1

pub read_cuts-requires-clause-from : goal.read_cuts-requires-clause-from
read_cuts-requires-clause-from c = c.requires.from

pub read_cuts-requires-clause-to : goal.read_cuts-requires-clause-to
read_cuts-requires-clause-to c = c.requires.to

pub read_batches-requires-clause-from : goal.read_batches-requires-clause-from
read_batches-requires-clause-from c = c.requires.from

pub read_batches-requires-clause-to : goal.read_batches-requires-clause-to
read_batches-requires-clause-to c = c.requires.to

pub read_batches-requires-clause-first : goal.read_batches-requires-clause-first
read_batches-requires-clause-first c = omega (arith, c.from-first.ensures, c.cuts_of_vote.ensures.most, c.requires.learned)

pub returns-in_err-cuts : goal.returns-in_err-cuts
returns-in_err-cuts c =
    let head = c.args.head in
    let lines = lines_in c.args.text.now in
    let p = err_from_is_err_and c.from_residual.result c.from_residual.ensures.1 in
    rw (p.1, p.2) (told_so c.in_err-cuts.field-0.0 _ _ (λ f e. cuts_fault lines.lines lines.rest (head_of head) f
    (subst (λ n. cuts_in 2 head.agents (head.learned + n) lines.lines ≡ Err f) c.cuts_of_vote.ensures.value e)) c.in_err-cuts.ensures)

pub returns-in_err-store : goal.returns-in_err-store
returns-in_err-store c =
    let head = c.args.head in
    let cuts = map arc_value c.in_ok-cuts.cuts.items in
    let below = c.in_ok-cuts.rest.now in
    let vote = c.cuts_of_vote.ensures.value in
    let first = ap (λ n. 2 + n) (c.from-first.ensures ∙ ap (λ n. head.learned + n) vote) in
    let are = subst (λ n. AreCutsOf c.args.text.now 2 head.agents (head.learned + n) cuts below) vote c.in_ok-cuts.ensures in
    let p = err_from_is_err_and c.from_residual-in_err-store.result c.from_residual-in_err-store.ensures.1 in
    rw (p.1, p.2) (told_so c.in_err-store.field-0.0 _ _ (λ f e. batches_fault c.args.text.now (head_of head) cuts below _ first are f e) c.in_err-store.ensures)

pub returns : goal.returns
returns c =
    let head = c.args.head in
    let cuts = map arc_value c.in_ok-cuts.cuts.items in
    let below = c.in_ok-cuts.rest.now in
    let vote = c.cuts_of_vote.ensures.value in
    let first = ap (λ n. 2 + n) (c.from-first.ensures ∙ ap (λ n. head.learned + n) vote) in
    let are = subst (λ n. AreCutsOf c.args.text.now 2 head.agents (head.learned + n) cuts below) vote c.in_ok-cuts.ensures in
    let left = c.in_ok-store.rest.now in
    all_read c.args.text.now (head_of head) cuts below _ first are c.in_ok-store.store.batches c.in_ok-store.line left c.in_ok-store.ensures.0
    (empty_by_length left ∙ sym c.is_empty.ensures ∙ c.if-not-is_empty.false)
    ∙ ap Ok (sym c.parts_of.ensures)
