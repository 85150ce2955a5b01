use Rattle.std.proofs.Common.{◌≡◌, ℕ, ◌+◌, ◌≤◌, List, ◌++◌, length, codes, refl, sym, ap, ◌∙◌, arith, length-append}
use Rattle.metering_model.specs.Transcript.{refusal_text, with_number}
use Rattle.answer_words.proofs.refusals.put_refusal.Goals as goal

-- ---- what has room

word_fits : (old new word : List ℕ) (left : ℕ) → new ≡ old ++ word → length word + left ≡ 44 → length new ≤ length old + 44
word_fits old new word left put size = omega (arith, size, ap length put, length-append old word)

more : (a b c : ℕ) → a ≤ b + c → c ≤ 44 → a ≤ b + 44
more a b c within few = omega (arith, within, few)

room : (a c : ℕ) → a + 44 ≤ 64 → c ≤ 44 → a + c ≤ 64
room a c within few = omega (arith, within, few)

at_most : (a b c : ℕ) → a + b ≡ c → a ≤ c
at_most a b c is = omega (arith, is)

-- ---- at the calls

pub put_bad_batch-requires : goal.put_bad_batch-requires
put_bad_batch-requires c = record { room = room _ 40 c.requires.room (at_most 40 4 44 refl) }

pub put_bad_kept-requires : goal.put_bad_kept-requires
put_bad_kept-requires c = record { room = room _ 40 c.requires.room (at_most 40 4 44 refl) }

pub put_missing-requires : goal.put_missing-requires
put_missing-requires c = record { room = c.requires.room }

pub put_numbered-requires-clause-short : goal.put_numbered-requires-clause-short
put_numbered-requires-clause-short c = at_most 10 2 12 refl

pub put_numbered-requires-clause-room : goal.put_numbered-requires-clause-room
put_numbered-requires-clause-room c = room _ 22 c.requires.room (at_most 22 22 44 refl)

pub put_numbered-requires-in-NotClosed-clause-short : goal.put_numbered-requires-in-NotClosed-clause-short
put_numbered-requires-in-NotClosed-clause-short c = at_most 11 1 12 refl

pub put_numbered-requires-in-NotClosed-clause-room : goal.put_numbered-requires-in-NotClosed-clause-room
put_numbered-requires-in-NotClosed-clause-room c = room _ 22 c.requires.room (at_most 22 22 44 refl)

pub put-requires : goal.put-requires
put-requires c = record { room = room _ 2 c.requires.room (at_most 2 42 44 refl) }

pub put-requires-in-Unpriced : goal.put-requires-in-Unpriced
put-requires-in-Unpriced c = record { room = room _ 2 c.requires.room (at_most 2 42 44 refl) }

pub put-requires-in-NoPacket : goal.put-requires-in-NoPacket
put-requires-in-NoPacket c = record { room = room _ 2 c.requires.room (at_most 2 42 44 refl) }

pub put-requires-in-NoNode : goal.put-requires-in-NoNode
put-requires-in-NoNode c = record { room = room _ 2 c.requires.room (at_most 2 42 44 refl) }

pub put-requires-in-AllClosed : goal.put-requires-in-AllClosed
put-requires-in-AllClosed c = record { room = room _ 2 c.requires.room (at_most 2 42 44 refl) }

pub put-requires-in-NoBallot : goal.put-requires-in-NoBallot
put-requires-in-NoBallot c = record { room = room _ 3 c.requires.room (at_most 3 41 44 refl) }

pub put-requires-in-WorldFull : goal.put-requires-in-WorldFull
put-requires-in-WorldFull c = record { room = room _ 3 c.requires.room (at_most 3 41 44 refl) }

pub put-requires-in-NoAgent : goal.put-requires-in-NoAgent
put-requires-in-NoAgent c = record { room = room _ 3 c.requires.room (at_most 3 41 44 refl) }

pub put-requires-in-Observer : goal.put-requires-in-Observer
put-requires-in-Observer c = record { room = room _ 3 c.requires.room (at_most 3 41 44 refl) }

pub put-requires-in-NotKept : goal.put-requires-in-NotKept
put-requires-in-NotKept c = record { room = room _ 3 c.requires.room (at_most 3 41 44 refl) }

-- ---- what is put

pub returns-in-BadTarget-clause-put : goal.returns-in-BadTarget-clause-put
returns-in-BadTarget-clause-put c = c.put.ensures ∙ sym (ap (λ r. c.args.line.now ++ refusal_text r) c.in-BadTarget.is)

pub returns-in-BadTarget-clause-room : goal.returns-in-BadTarget-clause-room
returns-in-BadTarget-clause-room c = word_fits c.args.line.now c.put.new.self (codes "G3") 42 c.put.ensures refl

pub returns-in-Unpriced-clause-put : goal.returns-in-Unpriced-clause-put
returns-in-Unpriced-clause-put c = c.put-in-Unpriced.ensures ∙ sym (ap (λ r. c.args.line.now ++ refusal_text r) c.in-Unpriced.is)

pub returns-in-Unpriced-clause-room : goal.returns-in-Unpriced-clause-room
returns-in-Unpriced-clause-room c = word_fits c.args.line.now c.put-in-Unpriced.new.self (codes "G4") 42 c.put-in-Unpriced.ensures refl

pub returns-in-NoPacket-clause-put : goal.returns-in-NoPacket-clause-put
returns-in-NoPacket-clause-put c = c.put-in-NoPacket.ensures ∙ sym (ap (λ r. c.args.line.now ++ refusal_text r) c.in-NoPacket.is)

pub returns-in-NoPacket-clause-room : goal.returns-in-NoPacket-clause-room
returns-in-NoPacket-clause-room c = word_fits c.args.line.now c.put-in-NoPacket.new.self (codes "G5") 42 c.put-in-NoPacket.ensures refl

pub returns-in-NoNode-clause-put : goal.returns-in-NoNode-clause-put
returns-in-NoNode-clause-put c = c.put-in-NoNode.ensures ∙ sym (ap (λ r. c.args.line.now ++ refusal_text r) c.in-NoNode.is)

pub returns-in-NoNode-clause-room : goal.returns-in-NoNode-clause-room
returns-in-NoNode-clause-room c = word_fits c.args.line.now c.put-in-NoNode.new.self (codes "G6") 42 c.put-in-NoNode.ensures refl

pub returns-in-AllClosed-clause-put : goal.returns-in-AllClosed-clause-put
returns-in-AllClosed-clause-put c = c.put-in-AllClosed.ensures ∙ sym (ap (λ r. c.args.line.now ++ refusal_text r) c.in-AllClosed.is)

pub returns-in-AllClosed-clause-room : goal.returns-in-AllClosed-clause-room
returns-in-AllClosed-clause-room c = word_fits c.args.line.now c.put-in-AllClosed.new.self (codes "G9") 42 c.put-in-AllClosed.ensures refl

pub returns-in-NoBallot-clause-put : goal.returns-in-NoBallot-clause-put
returns-in-NoBallot-clause-put c = c.put-in-NoBallot.ensures ∙ sym (ap (λ r. c.args.line.now ++ refusal_text r) c.in-NoBallot.is)

pub returns-in-NoBallot-clause-room : goal.returns-in-NoBallot-clause-room
returns-in-NoBallot-clause-room c = word_fits c.args.line.now c.put-in-NoBallot.new.self (codes "G10") 41 c.put-in-NoBallot.ensures refl

pub returns-in-WorldFull-clause-put : goal.returns-in-WorldFull-clause-put
returns-in-WorldFull-clause-put c = c.put-in-WorldFull.ensures ∙ sym (ap (λ r. c.args.line.now ++ refusal_text r) c.in-WorldFull.is)

pub returns-in-WorldFull-clause-room : goal.returns-in-WorldFull-clause-room
returns-in-WorldFull-clause-room c = word_fits c.args.line.now c.put-in-WorldFull.new.self (codes "G11") 41 c.put-in-WorldFull.ensures refl

pub returns-in-NoAgent-clause-put : goal.returns-in-NoAgent-clause-put
returns-in-NoAgent-clause-put c = c.put-in-NoAgent.ensures ∙ sym (ap (λ r. c.args.line.now ++ refusal_text r) c.in-NoAgent.is)

pub returns-in-NoAgent-clause-room : goal.returns-in-NoAgent-clause-room
returns-in-NoAgent-clause-room c = word_fits c.args.line.now c.put-in-NoAgent.new.self (codes "G12") 41 c.put-in-NoAgent.ensures refl

pub returns-in-Observer-clause-put : goal.returns-in-Observer-clause-put
returns-in-Observer-clause-put c = c.put-in-Observer.ensures ∙ sym (ap (λ r. c.args.line.now ++ refusal_text r) c.in-Observer.is)

pub returns-in-Observer-clause-room : goal.returns-in-Observer-clause-room
returns-in-Observer-clause-room c = word_fits c.args.line.now c.put-in-Observer.new.self (codes "G13") 41 c.put-in-Observer.ensures refl

pub returns-in-NotKept-clause-put : goal.returns-in-NotKept-clause-put
returns-in-NotKept-clause-put c = c.put-in-NotKept.ensures ∙ sym (ap (λ r. c.args.line.now ++ refusal_text r) c.in-NotKept.is)

pub returns-in-NotKept-clause-room : goal.returns-in-NotKept-clause-room
returns-in-NotKept-clause-room c = word_fits c.args.line.now c.put-in-NotKept.new.self (codes "G15") 41 c.put-in-NotKept.ensures refl

pub returns-in-BadBatch-clause-put : goal.returns-in-BadBatch-clause-put
returns-in-BadBatch-clause-put c = c.put_bad_batch.ensures.put ∙ sym (ap (λ r. c.args.line.now ++ refusal_text r) c.in-BadBatch.is)

pub returns-in-BadBatch-clause-room : goal.returns-in-BadBatch-clause-room
returns-in-BadBatch-clause-room c = more _ _ 40 c.put_bad_batch.ensures.room (at_most 40 4 44 refl)

pub returns-in-BadKept-clause-put : goal.returns-in-BadKept-clause-put
returns-in-BadKept-clause-put c = c.put_bad_kept.ensures.put ∙ sym (ap (λ r. c.args.line.now ++ refusal_text r) c.in-BadKept.is)

pub returns-in-BadKept-clause-room : goal.returns-in-BadKept-clause-room
returns-in-BadKept-clause-room c = more _ _ 40 c.put_bad_kept.ensures.room (at_most 40 4 44 refl)

pub returns-in-Missing-clause-put : goal.returns-in-Missing-clause-put
returns-in-Missing-clause-put c = c.put_missing.ensures.put ∙ sym (ap (λ r. c.args.line.now ++ refusal_text r) c.in-Missing.is)

pub returns-in-Missing-clause-room : goal.returns-in-Missing-clause-room
returns-in-Missing-clause-room c = c.put_missing.ensures.room

pub returns-in-WrongSeq-clause-put : goal.returns-in-WrongSeq-clause-put
returns-in-WrongSeq-clause-put c = c.put_numbered.ensures.put ∙ sym (ap (λ r. c.args.line.now ++ refusal_text r) c.in-WrongSeq.is)

pub returns-in-WrongSeq-clause-room : goal.returns-in-WrongSeq-clause-room
returns-in-WrongSeq-clause-room c = more _ _ 22 c.put_numbered.ensures.room (at_most 22 22 44 refl)

pub returns-in-NotClosed-clause-put : goal.returns-in-NotClosed-clause-put
returns-in-NotClosed-clause-put c = c.put_numbered-in-NotClosed.ensures.put ∙ ap (λ n. c.args.line.now ++ with_number (codes "G7 learned ") n) c.from.ensures ∙ sym (ap (λ r. c.args.line.now ++ refusal_text r) c.in-NotClosed.is)

pub returns-in-NotClosed-clause-room : goal.returns-in-NotClosed-clause-room
returns-in-NotClosed-clause-room c = more _ _ 22 c.put_numbered-in-NotClosed.ensures.room (at_most 22 22 44 refl)
