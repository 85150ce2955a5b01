-- What every reached world keeps, and what a step and a run do to what some run led to.
use Rattle.std.proofs.Common.{ℕ, List, [], ◌++◌, refl, subst, ap, ◌∙◌}
use Rattle.metering_model.specs.Sheet.{Sheet, Issuer}
use Rattle.metering_model.specs.Limits.{most_packets}
use Rattle.metering_model.specs.World.{World, Event, voter_count, opening}
use Rattle.metering_model.specs.Step.{play}
use Rattle.metering_model.proofs.PlayLaws.{play-append}
use Rattle.group_laws.specs.Headline.{HoldsAfter}
use Rattle.group_laws.specs.EveryRun.{KeepsLimits}
use Rattle.group_laws.proofs.Forms.{HasForms}
use Rattle.group_laws.proofs.EveryRun.{forms, holds_after}
use Rattle.group_laws.proofs.Limits.{keeps_limits}
use Rattle.group_state.specs.Reached.{MayOpen, IsReached}

-- the world that a group is opened with is reached, by no event
pub opening_reached : (voters observers agents : ℕ) (sheet : Sheet) (issuer : Issuer) → MayOpen voters observers agents sheet → IsReached (opening voters observers agents sheet issuer)
opening_reached voters observers agents sheet issuer may = record { voters = voters; observers = observers; agents = agents; sheet = sheet; issuer = issuer; opened = may; events = []; leads = refl }

-- a run from a reached world leads to a reached one
pub play_reached : (w : World) (es : List Event) → IsReached w → IsReached (play w es).1
play_reached w es h = record {
  voters = h.voters;
  observers = h.observers;
  agents = h.agents;
  sheet = h.sheet;
  issuer = h.issuer;
  opened = h.opened;
  events = h.events ++ es;
  leads = play-append (opening h.voters h.observers h.agents h.sheet h.issuer) h.events es ∙ ap (λ u. (play u es).1) h.leads;
}

-- the headline of the run that led here
pub headline_here : (w : World) (h : IsReached w) → HoldsAfter h.voters h.observers h.agents h.sheet h.issuer h.events (play (opening h.voters h.observers h.agents h.sheet h.issuer) h.events).0 w
headline_here w h =
    subst (λ u. HoldsAfter h.voters h.observers h.agents h.sheet h.issuer h.events (play (opening h.voters h.observers h.agents h.sheet h.issuer) h.events).0 u) h.leads
    (holds_after most_packets h.voters h.observers h.agents h.sheet h.issuer h.events)

-- what each node keeps has a form that is read back
pub forms_here : (w : World) → IsReached w → HasForms w
forms_here w h = subst HasForms h.leads (forms most_packets h.voters h.observers h.agents h.sheet h.issuer h.events)

-- what the world has is in the ranges in which a group may be opened
pub still_open : (w : World) (h : IsReached w) → MayOpen (voter_count w) h.observers w.agents w.sheet
still_open w h =
    let all = headline_here w h in
    rw (all.voters_kept, all.agents_kept, all.sheet_kept) h.opened

-- the limits that every run keeps
pub limits_here : (w : World) (h : IsReached w) → KeepsLimits most_packets (voter_count w) h.observers w.agents w
limits_here w h =
    let all = headline_here w h in
    let limits : KeepsLimits most_packets h.voters h.observers h.agents w = subst (KeepsLimits most_packets h.voters h.observers h.agents) h.leads (keeps_limits most_packets h.voters h.observers h.agents h.sheet h.issuer h.events) in
    record {
      nodes_kept = rw limits.voters_kept limits.nodes_kept;
      voters_kept = refl;
      agents_kept = refl;
      rules = limits.rules;
      in_range = limits.in_range;
      room_kept = limits.room_kept;
      fits = limits.fits;
      each_packet = limits.each_packet;
      each_node = limits.each_node;
      each_observer = limits.each_observer;
    }
