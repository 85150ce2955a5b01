use Rattle.std.proofs.Common.{◌+◌, ◌<◌, ◌∷◌, length, map, drop, refl, sym, ap, ◌∙◌, arith}
use Rattle.std.proofs.lemmas.List.{drop_all}
use Rattle.batch_view.specs.Asked.{asked_in}
use Rattle.batch_view.specs.Batches.{batch_of}
use Rattle.batch_view.proofs.BatchLemmas.{never_fails}
use Rattle.batch_view.proofs.StepLemmas.{behind, read, walks_on, asked_there}
use Rattle.batch_view.proofs.asked.AskedRecordsIterator.next.Goals as goal

pub returns-then-self-end-clause-steps : goal.returns-then-self-end-clause-steps
returns-then-self-end-clause-steps c =
    let none = ap (map asked_in) (drop_all c.self.inside.index (batch_of c.self.inside.bytes.now).records (omega (arith, c.self.invariant.view.head.count, c.if-self-end.true))) in
    rw (← c.self.view_is) (record { first = (none, none); walk = refl })

pub returns-in-Some-clause-steps : goal.returns-in-Some-clause-steps
returns-in-Some-clause-steps c =
    let head = c.self.invariant.view.head in
    let within : c.self.inside.index < length (batch_of c.self.inside.bytes.now).records = omega (arith, head.count, c.self.invariant.within) in
    rw (← c.self.view_is) (asked_there c.self.inside.bytes.now c.self.inside.index c.kept_asked-asked.result head.are within c.kept_asked-asked.ensures)

pub invariant_of-self-in-Ok : goal.invariant_of-self-in-Ok
invariant_of-self-in-Ok c =
    walks_on c.self.inside.bytes.now c.self.inside.head c.self.inside.kept c.self.inside.index c.self.inside.at c.self.invariant c.if-self-end.false c.in_default.is c.in-Ok.record c.in-Ok.next c.in-Ok.ensures

pub returns-in-Ok-clause-steps : goal.returns-in-Ok-clause-steps
returns-in-Ok-clause-steps c =
    let r = read c.self.inside.bytes.now c.self.inside.head c.self.inside.kept c.self.inside.index c.self.inside.at c.self.invariant c.if-self-end.false c.in_default.is c.in-Ok.record c.in-Ok.next c.in-Ok.ensures in
    let rest = map asked_in (drop (c.self.inside.index + 1) (batch_of c.self.inside.bytes.now).records) in
    rw (← c.self.view_is) (record { first = ap (map asked_in) r.left ∙ ap (λ x. x ∷ rest) (sym c.asked_of_record.ensures); walk = refl })

pub returns-in-Err-clause-steps : goal.returns-in-Err-clause-steps
returns-in-Err-clause-steps c =
    let head = c.self.invariant.view.head in
    let within : c.self.inside.index < length (batch_of c.self.inside.bytes.now).records = omega (arith, head.count, c.self.invariant.within) in
    let behind = behind c.self.inside.bytes.now c.self.inside.head c.self.inside.kept c.self.inside.index c.self.inside.at c.self.invariant c.if-self-end.false c.in_default.is in
    absurd (never_fails c.self.inside.head.version c.self.inside.bytes.now c.self.inside.index c.self.inside.at c.in-Err.field-0 head.version head.are within behind c.in-Err.ensures)
