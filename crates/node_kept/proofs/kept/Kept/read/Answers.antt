use Rattle.std.proofs.Common.{◌≡◌, ◌≤◌, List, ℕ, Result, Ok, Err, sym, ap, ◌∙◌}
use Rattle.std.proofs.lemmas.Result.{err_from_is_err_and}
use Rattle.metering_model.specs.BatchReading.{fields_in}
use Rattle.metering_model.specs.KeptText.{KeptAmong, kept_head_in, kept_in}
use Rattle.node_kept.specs.declared.head.Head.{Head}
use Rattle.metering_model.specs.declared.KeptCode.{KeptCode}
use Rattle.metering_model.specs.declared.KeptCode.TheVariants.{Head as BadHead}
use Rattle.metering_model.specs.declared.KeptTextFault.{KeptTextFault}
use Rattle.metering_model.proofs.KeptLines.{kept_head_read}
use Rattle.node_kept.specs.Offers.{IsFaultOf, first_head}
use Rattle.node_kept.specs.declared.faults.KeptFault.{KeptFault}
use Rattle.node_kept.specs.declared.faults.KeptFault.TheVariants.{Refused, OutOfMemory}
use Rattle.node_kept.specs.Inner.Head.{head_of}
use Rattle.node_kept.specs.Inner.Left.{IfTold}
use Rattle.node_kept.proofs.Limits.{kept_of_read}
use Rattle.node_kept.proofs.WholeTexts.{no_line, bad_head, good_head}
use Rattle.node_kept.proofs.kept.Kept.read.Goals as goal

no_want : {A Z : Type 0} (code : KeptCode) (line : ℕ) → ◌≡◌ {A = Result A KeptFault} (Err (Refused code line)) (Err OutOfMemory) → Z
no_want code line e = absurd (cc)

no_want_read : {A Z : Type 0} (read : A) → ◌≡◌ {A = Result A KeptFault} (Ok read) (Err OutOfMemory) → Z
no_want_read read e = absurd (cc)

limits : (l : List ℕ) (h : Head) → kept_head_in (fields_in l) ≡ Ok (head_of h) → (1 ≤ h.agents) × (h.agents ≤ 64) × (h.learned ≤ 1_200)
limits l h e =
    let k = (kept_head_read l (head_of h) e).1 in
    (k.agents.0, k.agents.1, k.learned)

fault_of : (text : List ℕ) (fault : KeptFault) (r : Result KeptAmong KeptTextFault) → kept_in text ≡ r → IfTold fault (λ f. r ≡ Err f) → IsFaultOf text fault
fault_of text (Refused code line) r e told = e ∙ told
fault_of text OutOfMemory r e told = tt

pub returns-in_err-parts-clause-want : goal.returns-in_err-parts-clause-want
returns-in_err-parts-clause-want c = λ want.
    (head_of c.in-Some-head_of_line.head, ap (λ x. first_head x.lines) c.in-Some.ensures ∙ c.in-Some-head_of_line.ensures)

pub of-requires : goal.of-requires
of-requires c =
    kept_of_read c.args.text.now c.in_ok-parts.parts
    (good_head c.args.text.now c.in-Some.first.now c.in-Some.below.now (head_of c.in-Some-head_of_line.head) c.in-Some.ensures c.in-Some-head_of_line.ensures ∙ c.in_ok-parts.ensures)

pub returns-in_default-clause-ok : goal.returns-in_default-clause-ok
returns-in_default-clause-ok c = tt

pub returns-in_default-clause-refused : goal.returns-in_default-clause-refused
returns-in_default-clause-refused c = no_line c.args.text.now c.in_default.ensures

pub returns-in_default-clause-want : goal.returns-in_default-clause-want
returns-in_default-clause-want c = no_want BadHead 1

pub returns-in_default-head_of_line-clause-ok : goal.returns-in_default-head_of_line-clause-ok
returns-in_default-head_of_line-clause-ok c = tt

pub returns-in_default-head_of_line-clause-refused : goal.returns-in_default-head_of_line-clause-refused
returns-in_default-head_of_line-clause-refused c =
    bad_head c.args.text.now c.in-Some.first.now c.in-Some.below.now c.in-Some.ensures c.in_default-head_of_line.ensures

pub returns-in_default-head_of_line-clause-want : goal.returns-in_default-head_of_line-clause-want
returns-in_default-head_of_line-clause-want c = no_want BadHead 1

pub returns-in_err-parts-clause-refused : goal.returns-in_err-parts-clause-refused
returns-in_err-parts-clause-refused c =
    let p = err_from_is_err_and c.from_residual.result c.from_residual.ensures.1 in
    rw (p.1, p.2) (fault_of c.args.text.now c.in_err-parts.field-0.0 _
    (good_head c.args.text.now c.in-Some.first.now c.in-Some.below.now (head_of c.in-Some-head_of_line.head) c.in-Some.ensures c.in-Some-head_of_line.ensures) c.in_err-parts.ensures)

pub returns-clause-ok : goal.returns-clause-ok
returns-clause-ok c =
    good_head c.args.text.now c.in-Some.first.now c.in-Some.below.now (head_of c.in-Some-head_of_line.head) c.in-Some.ensures c.in-Some-head_of_line.ensures
    ∙ c.in_ok-parts.ensures ∙ ap Ok (sym c.of.ensures)

pub returns-clause-refused : goal.returns-clause-refused
returns-clause-refused c = tt

pub returns-clause-want : goal.returns-clause-want
returns-clause-want c = no_want_read c.of.result

pub read_parts-requires-clause-from : goal.read_parts-requires-clause-from
read_parts-requires-clause-from c = (limits c.in-Some.first.now c.in-Some-head_of_line.head c.in-Some-head_of_line.ensures).0

pub read_parts-requires-clause-to : goal.read_parts-requires-clause-to
read_parts-requires-clause-to c = (limits c.in-Some.first.now c.in-Some-head_of_line.head c.in-Some-head_of_line.ensures).1

pub read_parts-requires-clause-learned : goal.read_parts-requires-clause-learned
read_parts-requires-clause-learned c = (limits c.in-Some.first.now c.in-Some-head_of_line.head c.in-Some-head_of_line.ensures).2
