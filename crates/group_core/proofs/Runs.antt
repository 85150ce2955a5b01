-- The headline of a run from a reached world.
use Rattle.std.proofs.Common.{◌≡◌, ℕ, zero, suc, List, ◌++◌, arith, refl, sym, ap, subst, ◌∙◌, Option, Some, None, unwrap_or}
use Rattle.std.specs.Prelude.{slice_get}
use Rattle.metering_model.specs.Cut.{Cut, IsAtLeast, zero_cut}
use Rattle.metering_model.specs.Holding.{Holding, AgreeUpTo, IsPartOf}
use Rattle.metering_model.specs.Rows.{rows}
use Rattle.metering_model.specs.File.{file}
use Rattle.metering_model.specs.Sheet.{Sheet, Issuer}
use Rattle.metering_model.specs.Limits.{most_packets}
use Rattle.metering_model.specs.World.{World, Node, Packet, Event, Snapshot, Exported, voter_count, opening}
use Rattle.metering_model.specs.Deliveries.{handled}
use Rattle.metering_model.specs.Step.{cut_before, play}
use Rattle.metering_model.proofs.PlayLaws.{play-append}
use Rattle.metering_model.proofs.PartLaws.{part_of_itself, IsPartOf-trans, IsPartOf-grown, agree_where_held}
use Rattle.metering_model.proofs.HoldingLaws.{same_up_to}
use Rattle.metering_model.proofs.AgreementLaws.{same_rows}
use Rattle.metering_model.proofs.NextLaws.{held_below_next}
use Rattle.group_laws.specs.Headline.{IsPrefixOf, AreTheCuts, IsExport, HoldsAfter}
use Rattle.group_laws.proofs.EveryRun.{holds_after, cuts_grow}
use Rattle.group_laws.proofs.StepCases.{IsKeptBySteps, after, started, start_packet, journaling}
use Rattle.group_laws.proofs.Forms.{play_kept}
use Rattle.group_laws.proofs.Fits.{IsFitting, IsFitting-steps}
use Rattle.group_laws.proofs.Agreed.{element_of, earlier_entry, are_the_cuts, the_cuts, cut_goes_on}
use Rattle.group_laws.proofs.Asked.{one_each, asked}
use Rattle.group_laws.proofs.Answered.{kept, only}
use Rattle.group_laws.proofs.Exports.{IsTaken, all_taken, is_export}
use Rattle.group_state.specs.Reached.{IsReached}
use Rattle.group_core.specs.Headline.{AreExportsOf, ExportsAgree, IsSameGroup, ListGrows, ExportsStay, AnswersEach}
use Rattle.group_state.proofs.Reaching.{forms_here, play_reached}
use Rattle.group_core.proofs.Worlds.{fitting_here, same_cuts, same_exports, get_in_longer}

-- ---- the journals only grow

record HasMore (N : ℕ) (J : Holding) (w : World) : Type 0 where
  pub fitting : IsFitting N w
  pub part : IsPartOf J w.journals

module _ (N : ℕ) (J : Holding) where
  more_after : (w : World) (i : ℕ) (n : Node) (o : Option Packet) → IsPartOf J w.journals → IsPartOf J (after w i n o).journals
  more_after w i n None h = h
  more_after w i n (Some q) h = h

  HasMore-steps : IsKeptBySteps (HasMore N J)
  HasMore-steps = record {
    journals = λ w b k next. record { fitting = (IsFitting-steps N).journals w b k.fitting next; part = IsPartOf-trans J w.journals (journaling w b).journals k.part (IsPartOf-grown w.journals b k.fitting.rules.is_holding) };
    delivers = λ w i n q k may. record { fitting = (IsFitting-steps N).delivers w i n q k.fitting may; part = more_after w i (handled w i n q).node (handled w i n q).sends k.part };
    starts = λ w i n k may. record { fitting = (IsFitting-steps N).starts w i n k.fitting may; part = more_after w i (started w i n) (Some (start_packet w i n)) k.part };
    restarts = λ w i n k found. record { fitting = (IsFitting-steps N).restarts w i n k.fitting found; part = k.part };
  }

-- ---- an export stays one

-- the cut before a period that is there is the same in a list that goes on
same_before : (agents : ℕ) (cuts rest : List Cut) (p : ℕ) (to : Cut) → slice_get cuts p ≡ Some to → cut_before agents (cuts ++ rest) p ≡ cut_before agents cuts p
same_before agents cuts rest zero to e = refl
same_before agents cuts rest (suc p) to e =
    let entry = earlier_entry cuts p to e in
    ap (λ o. unwrap_or o (zero_cut agents)) (get_in_longer cuts rest p entry.0 entry.1 ∙ sym entry.1)

module _ (w u : World) (h : IsReached w) (k : IsReached u) (cuts later : List Cut) (are : AreTheCuts w cuts) (goes_on : IsPrefixOf cuts later)
    (more : IsPartOf w.journals u.journals) (group : IsSameGroup w u) (s : Snapshot) (e : IsExport w cuts s) where
  agree : AgreeUpTo s.to w.journals u.journals
  agree = agree_where_held w.journals u.journals s.to (fitting_here w h).rules.is_holding (fitting_here u k).rules.is_holding more
      (λ agent seq some within. held_below_next w.sheet w.journals agent seq (fitting_here w h).rules some (omega (arith, within, are.journaled s.period s.to e.to agent)))

  at_least : IsAtLeast s.to s.from
  at_least =
      let here : slice_get (the_cuts w (fitting_here w h)) s.period ≡ Some s.to = subst (λ xs. slice_get xs s.period ≡ Some s.to) (same_cuts w cuts _ are (are_the_cuts w (fitting_here w h))) e.to in
      subst (IsAtLeast s.to) (ap (λ xs. cut_before w.agents xs s.period) (same_cuts w _ cuts (are_the_cuts w (fitting_here w h)) are) ∙ sym e.from) (cut_goes_on w (fitting_here w h) s.period s.to here).grows

  later_from : s.from ≡ cut_before u.agents later s.period
  later_from =
      e.from ∙ (sym (same_before w.agents cuts goes_on.0 s.period s.to e.to) ∙ (ap (λ xs. cut_before w.agents xs s.period) goes_on.1 ∙ ap (λ n. cut_before n later s.period) (sym group.agents)))

  later_file : file (rows w.sheet w.issuer w.journals s.period s.from s.to) ≡ file (rows u.sheet u.issuer u.journals s.period s.from s.to)
  later_file =
      ap (λ (x : Sheet). file (rows x w.issuer w.journals s.period s.from s.to)) (sym group.sheet)
      ∙ (ap (λ (x : Issuer). file (rows u.sheet x w.journals s.period s.from s.to)) (sym group.issuer)
      ∙ ap file (same_rows u.sheet u.issuer w.journals u.journals s.period s.from s.to (fitting_here w h).rules.is_holding (fitting_here u k).rules.is_holding agree at_least))

  is_later_export : IsExport u later s
  is_later_export = record {
    from = later_from;
    to = subst (λ xs. slice_get xs s.period ≡ Some s.to) goes_on.1 (get_in_longer cuts goes_on.0 s.period s.to e.to);
    sheet = e.sheet ∙ sym group.sheet;
    issuer = e.issuer ∙ sym group.issuer;
    batches = e.batches ∙ same_up_to s.to w.journals u.journals (fitting_here w h).rules.is_holding (fitting_here u k).rules.is_holding agree;
    rules = e.rules;
    file = e.file ∙ later_file;
  }

-- ---- a run

module _ (w : World) (es : List Event) (h : IsReached w) where
  there : IsReached (play w es).1
  there = play_reached w es h

  -- the run that led here goes on
  goes_on_here : (play (opening h.voters h.observers h.agents h.sheet h.issuer) (h.events ++ es)).1 ≡ (play w es).1
  goes_on_here = play-append (opening h.voters h.observers h.agents h.sheet h.issuer) h.events es ∙ ap (λ s. (play s es).1) h.leads

  led_here : HoldsAfter h.voters h.observers h.agents h.sheet h.issuer h.events (play (opening h.voters h.observers h.agents h.sheet h.issuer) h.events).0 w
  led_here = subst (HoldsAfter h.voters h.observers h.agents h.sheet h.issuer h.events (play (opening h.voters h.observers h.agents h.sheet h.issuer) h.events).0) h.leads
      (holds_after most_packets h.voters h.observers h.agents h.sheet h.issuer h.events)

  led_there : HoldsAfter h.voters h.observers h.agents h.sheet h.issuer (h.events ++ es) (play (opening h.voters h.observers h.agents h.sheet h.issuer) (h.events ++ es)).0 (play w es).1
  led_there = subst (HoldsAfter h.voters h.observers h.agents h.sheet h.issuer (h.events ++ es) (play (opening h.voters h.observers h.agents h.sheet h.issuer) (h.events ++ es)).0) goes_on_here
      (holds_after most_packets h.voters h.observers h.agents h.sheet h.issuer (h.events ++ es))

  pub same_group_in_run : IsSameGroup w (play w es).1
  same_group_in_run = record {
    nodes = led_there.nodes_kept ∙ sym led_here.nodes_kept;
    voters = led_there.voters_kept ∙ sym led_here.voters_kept;
    agents = led_there.agents_kept ∙ sym led_here.agents_kept;
    sheet = led_there.sheet_kept ∙ sym led_here.sheet_kept;
    issuer = led_there.issuer_kept ∙ sym led_here.issuer_kept;
  }

  pub grows_in_run : ListGrows w (play w es).1
  grows_in_run cuts later was is =
      cuts_grow most_packets h.voters h.observers h.agents h.sheet h.issuer h.events es cuts later (subst (λ s. AreTheCuts s cuts) (sym h.leads) was) (subst (λ s. AreTheCuts s later) (sym goes_on_here) is)

  more_there : IsPartOf w.journals (play w es).1.journals
  more_there =
      let begun : HasMore (voter_count w) w.journals w = record { fitting = fitting_here w h; part = part_of_itself w.journals } in
      (play_kept (HasMore (voter_count w) w.journals) (HasMore-steps (voter_count w) w.journals) es w (forms_here w h) begun).part

  pub stay_in_run : ExportsStay w (play w es).1
  stay_in_run s e =
      let later = led_there.cuts in
      let are = led_there.are_the_cuts in
      record {
        cuts = later;
        are_the_cuts = are;
        is_export = is_later_export w (play w es).1 h there e.cuts later e.are_the_cuts (grows_in_run e.cuts later e.are_the_cuts are) more_there same_group_in_run s e.is_export;
      }

  pub exports_in_run : AreExportsOf (play w es).1 (play w es).0
  exports_in_run s has =
      let at = element_of (play w es).0 (Exported s) has in
      let taken : IsTaken (voter_count w) (play w es).1 s = all_taken (voter_count w) es w (forms_here w h) (fitting_here w h) at.0 s at.1 in
      let u : World = (play w es).1 in
      record {
        cuts = the_cuts u (fitting_here u there);
        are_the_cuts = are_the_cuts u (fitting_here u there);
        is_export = is_export u (fitting_here u there) s (subst (λ N. IsTaken N u s) (sym same_group_in_run.voters) taken);
      }

  pub agree_in_run : ExportsAgree (play w es).1 (play w es).0
  agree_in_run = record {
    here = λ s t has had same. same_exports (play w es).1 s t (exports_in_run s has) (exports_in_run t had) same;
    with_earlier = λ s t has was same. same_exports (play w es).1 s t (exports_in_run s has) was same;
  }

  pub answers_in_run : AnswersEach w es (play w es).0 (play w es).1
  answers_in_run = record {
    one_each = one_each es w;
    asked = asked es w;
    kept = kept (voter_count w) es w (forms_here w h) (fitting_here w h);
    had = more_there;
    only = only (voter_count w) es w (forms_here w h) (fitting_here w h);
  }
