-- What a group in which nothing has happened answers to a batch.
use Rattle.std.proofs.Common.{◌≡◌, ℕ, Bool, true, false, List, [], Option, Some, None, Result, Ok, Err, refl, ap, ◌∙◌, eq-eqb, eqb-true, le-leb}
use Rattle.std.specs.Prelude.{◌==◌, nat_le}
use Rattle.std.proofs.lemmas.Bool.{false_from_ne_true}
use Rattle.metering_model.specs.FirstFailure.{◌>>=◌, holds_or}
use Rattle.metering_model.specs.Batch.{Batch}
use Rattle.metering_model.specs.BatchReading.{batch_in}
use Rattle.metering_model.specs.declared.BatchFault.{BatchFault}
use Rattle.metering_model.specs.declared.BrokenRule.{BrokenRule}
use Rattle.metering_model.specs.declared.BrokenRule.TheVariants.{BadTarget, Unpriced}
use Rattle.metering_model.specs.declared.Refusal.{Refusal}
use Rattle.metering_model.specs.declared.Refusal.TheVariants as refusals
use Rattle.metering_model.specs.Sheet.{Sheet, Issuer}
use Rattle.metering_model.specs.Holding.{placed, put}
use Rattle.metering_model.specs.JournalRules.{first_broken}
use Rattle.metering_model.specs.World.{World, Journaled, CarriesBatch, with_packet, next_packet}
use Rattle.metering_model.specs.Step.{Outcome, or_bad_batch, on_batch, unless_broken}
use Rattle.metering_model.specs.File.{file}
use Rattle.metering_model.proofs.BatchLaws.{batch_read}
use Rattle.metering_model.proofs.StepLaws.{step_ok, test_step, ok_same}
use Rattle.metering_model.specs.RatedAlone.{world_before, journaled_in, rows_alone, file_by}

-- the first rule that a batch breaks which is journaled alone
abbrev pub broken_alone : Sheet → Batch → Option BrokenRule
broken_alone sheet b = first_broken sheet (put [] b) (placed b)

pub no_batch : (sheet : Sheet) (issuer : Issuer) (text : List ℕ) (fault : BatchFault) → batch_in text ≡ Err fault
    → journaled_in sheet issuer text ≡ Err (refusals.BadBatch fault)
unfolding journaled_in
no_batch sheet issuer text fault bad =
    ap (λ r. or_bad_batch r >>= λ (b : Batch). on_batch (world_before sheet issuer) b >>= λ (o : Outcome). Ok b) bad

module _ (sheet : Sheet) (issuer : Issuer) (text : List ℕ) (b : Batch) (read : batch_in text ≡ Ok b) where
  abbrev w : World
  w = world_before sheet issuer

  -- the answer, by the three tests of a batch
  abbrev answer : Bool → Bool → Option BrokenRule → Result Outcome Refusal
  answer agent seq broken = do
    _ ← holds_or agent refusals.NoAgent
    _ ← holds_or seq (refusals.WrongSeq 1)
    _ ← unless_broken broken
    k ← next_packet w
    Ok (Journaled k, with_packet (CarriesBatch b) (record w { journals = put [] b }))

  -- the agent of what was read is one of the group's
  answered : on_batch w b ≡ answer true (b.seq == 1) (broken_alone sheet b)
  answered = ap (λ agent. answer agent (b.seq == 1) (broken_alone sheet b)) (le-leb b.agent 64 (batch_read text b read).agent.1)

  journaled_as : (r : Result Outcome Refusal) → on_batch w b ≡ r → journaled_in sheet issuer text ≡ (r >>= λ (o : Outcome). Ok b)
  unfolding journaled_in
  journaled_as r is =
      ap (λ t. or_bad_batch t >>= λ (c : Batch). on_batch w c >>= λ (o : Outcome). Ok c) read
      ∙ ap (λ (x : Result Outcome Refusal). x >>= λ (o : Outcome). Ok b) is

  pub later_batch : (b.seq ≡ 1 → ⊥) → journaled_in sheet issuer text ≡ Err (refusals.WrongSeq 1)
  later_batch other =
      journaled_as (answer true false (broken_alone sheet b))
      (answered ∙ ap (λ seq. answer true seq (broken_alone sheet b)) (false_from_ne_true _ (λ same. other (eqb-true b.seq 1 same))))

  by_rule : (broken : Option BrokenRule) → b.seq ≡ 1 → broken_alone sheet b ≡ broken → on_batch w b ≡ answer true true broken
  by_rule broken first rule =
      answered ∙ (ap (λ seq. answer true seq (broken_alone sheet b)) (eq-eqb b.seq 1 first) ∙ ap (answer true true) rule)

  pub bad_target : b.seq ≡ 1 → broken_alone sheet b ≡ Some BadTarget → journaled_in sheet issuer text ≡ Err refusals.BadTarget
  bad_target first rule = journaled_as (answer true true (Some BadTarget)) (by_rule (Some BadTarget) first rule)

  pub unpriced : b.seq ≡ 1 → broken_alone sheet b ≡ Some Unpriced → journaled_in sheet issuer text ≡ Err refusals.Unpriced
  unpriced first rule = journaled_as (answer true true (Some Unpriced)) (by_rule (Some Unpriced) first rule)

  pub taken : b.seq ≡ 1 → broken_alone sheet b ≡ None → journaled_in sheet issuer text ≡ Ok b
  taken first none = journaled_as (answer true true None) (by_rule None first none)

  pub filed : (period : ℕ) → b.seq ≡ 1 → broken_alone sheet b ≡ None → file_by sheet issuer period text ≡ Ok (file (rows_alone sheet issuer b period))
  filed period first none = ap (λ r. r >>= λ x. Ok (file (rows_alone sheet issuer x period))) (taken first none)

pub not_filed : (sheet : Sheet) (issuer : Issuer) (text : List ℕ) (period : ℕ) (refusal : Refusal) → journaled_in sheet issuer text ≡ Err refusal
    → file_by sheet issuer period text ≡ Err refusal
not_filed sheet issuer text period refusal is = ap (λ r. r >>= λ x. Ok (file (rows_alone sheet issuer x period))) is

-- ---- and back

batch_answered : (r : Result Batch BatchFault) (b : Batch) → or_bad_batch r ≡ Ok b → r ≡ Ok b
batch_answered (Ok x) b h = ap Ok (ok_same x b h)
batch_answered (Err fault) b h = absurd (cc)

rules_kept : (o : Option BrokenRule) (u : Unit {0}) → unless_broken o ≡ Ok u → o ≡ None
rules_kept None u h = refl
rules_kept (Some BadTarget) u h = absurd (cc)
rules_kept (Some Unpriced) u h = absurd (cc)

-- What is filed is a batch, its agent's first, that breaks no rule, and the file is that of its rows.
pub record IsFiled (sheet : Sheet) (issuer : Issuer) (period : ℕ) (text filed : List ℕ) : Type 0 where
  pub batch : Batch
  pub is_batch : batch_in text ≡ Ok batch
  pub first : batch.seq ≡ 1
  pub accepted : broken_alone sheet batch ≡ None
  pub written : file (rows_alone sheet issuer batch period) ≡ filed

pub filed_apart : (sheet : Sheet) (issuer : Issuer) (period : ℕ) (text filed : List ℕ) → file_by sheet issuer period text ≡ Ok filed
    → IsFiled sheet issuer period text filed
unfolding journaled_in
filed_apart sheet issuer period text filed h =
    let journaled = step_ok (journaled_in sheet issuer text) _ filed h in
    let b = journaled.0 in
    let read = step_ok (or_bad_batch (batch_in text)) _ b journaled.1 in
    let c = read.0 in
    let answer = step_ok (on_batch (world_before sheet issuer) c) _ b read.2 in
    let same = ok_same c b answer.2 in
    let agent = test_step (nat_le c.agent 64) refusals.NoAgent _ _ answer.1 in
    let seq = test_step (c.seq == 1) (refusals.WrongSeq 1) _ _ agent.1 in
    let rule = step_ok (unless_broken (broken_alone sheet c)) _ _ seq.1 in
    record {
      batch = c;
      is_batch = batch_answered (batch_in text) c read.1;
      first = eqb-true c.seq 1 seq.0;
      accepted = rules_kept (broken_alone sheet c) rule.0 rule.1;
      written = ap (λ x. file (rows_alone sheet issuer x period)) same ∙ ok_same _ filed journaled.2;
    }
