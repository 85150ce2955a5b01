-- What the processes of a group do, a world does; and more acts are more events.
use Rattle.std.proofs.Common.{ℕ, ◌+◌, List, [], ◌++◌, length, refl, sym, subst, arith}
use Rattle.group_laws.proofs.EveryRun.{holds_after}
use Rattle.process_laws.specs.LocalSteps.{Group}
use Rattle.process_laws.specs.Histories.{Act, begun, after, GoesOnInWorld, IsHistory, IsLeftBy, IsDoneByWorld}
use Rattle.process_laws.proofs.Stands.{Stands}
use Rattle.process_laws.proofs.MatchedActs.{all_are_matched, left_by, matched_on}

begun_stands : (g : Group) (room : ℕ) → Stands g room (begun g) [] []
begun_stands g room = record {
  reached = record { events = []; leads = refl };
  journals_of = λ agent. refl;
  sent = λ p. (λ has. has, λ has. has);
  fewer = omega arith;
}

-- there is room for all that is sent, and for one packet more
pub is_done_by_world : (g : Group) (acts : List Act) → IsHistory g (begun g) acts → IsDoneByWorld g acts
is_done_by_world g acts history =
    let room : ℕ = length (after g (begun g) acts).sent + 1 in
    let all = all_are_matched g room acts (begun g) [] [] (begun_stands g room) history (omega arith) in
    record {
      room = room;
      events = all.events;
      matched = all.matched;
      not_full = all.not_full;
      left = subst (IsLeftBy (after g (begun g) acts)) (sym all.leads) (left_by g room (after g (begun g) acts) all.journals all.packets all.stands);
      headline = holds_after room g.voters g.observers g.agents g.sheet g.issuer all.events;
    }

pub more_acts_are_more_events : (g : Group) (acts more : List Act) → IsHistory g (begun g) (acts ++ more) → GoesOnInWorld g acts more
more_acts_are_more_events g acts more history =
    let room : ℕ = length (after g (begun g) (acts ++ more)).sent + 1 in
    let m = matched_on g room acts more (begun g) [] [] (begun_stands g room) history (omega arith) in
    record { room = room; events = m.0; later = m.1; before = m.2; all = m.3; left_before = m.4; left = m.5 }
