-- Quotient and rest of a number are its own.
use Rattle.std.proofs.lemmas.Nat.{same_from_place}
use Rattle.paxos_ballot.proofs.laws.ballots_differ_and_rise.Goals as goal

pub returns-clause-differ : goal.returns-clause-differ
returns-clause-differ c = λ nodes r s i j i_below j_below same. same_from_place r i s j nodes i_below j_below same
