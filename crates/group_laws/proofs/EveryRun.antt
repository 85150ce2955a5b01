-- What holds after every run, and what a longer run keeps.
use Rattle.std.proofs.Common.{◌≡◌, ℕ, ◌+◌, List, ◌++◌, ◌<◌, length, map, refl, sym, subst, ◌∙◌, Option, Some, None, inl, inr}
use Rattle.std.specs.Prelude.{slice_get}
use Rattle.std.specs.List.{Contains}
use Rattle.std.proofs.lemmas.Option.{same_Some, slice_get-get_or, slice_get_within, none-some}
use Rattle.metering_model.specs.Sheet.{Sheet, Issuer}
use Rattle.metering_model.specs.Cut.{Cut}
use Rattle.metering_model.specs.World.{World, Node, Packet, CarriesBatch, Event, Snapshot, Exported, node_count, voter_count, wake, new_kept, opening_with}
use Rattle.metering_model.specs.Deliveries.{handled}
use Rattle.metering_model.specs.Step.{play}
use Rattle.metering_model.specs.Chosen.{IsChosen}
use Rattle.metering_model.specs.History.{Entry, IsLegal}
use Rattle.metering_model.proofs.PlayLaws.{play-append}
use Rattle.group_laws.specs.Headline.{IsPrefixOf, AreAnswers, AreTheCuts, IsExport, HoldsAfter}
use Rattle.group_laws.proofs.StepCases.{after, started, start_packet, IsKeptBySteps}
use Rattle.group_laws.proofs.Forms.{HasForms, HasForms-steps, HasForms-opening, play_kept}
use Rattle.group_laws.proofs.Steps.{length-slice_set, length-replicate}
use Rattle.group_laws.proofs.Told.{ChosenIn, ChosenIn-more}
use Rattle.group_laws.proofs.Fits.{IsFitting, IsFitting-steps, IsFitting-opening}
use Rattle.group_laws.proofs.Agreed.{the_cuts, one_chosen, are_the_cuts, same_entries, element_of}
use Rattle.group_laws.proofs.Exports.{IsTaken, all_taken, is_export, one_export}
use Rattle.group_laws.proofs.ChargedOnce.{charged_once}
use Rattle.group_laws.proofs.Asked.{one_each, asked}
use Rattle.group_laws.proofs.Answered.{kept, only}

-- ---- how many nodes and agents there are, the sheet and the issuer

pub record IsAsOpened (room nodes agents : ℕ) (sheet : Sheet) (issuer : Issuer) (w : World) : Type 0 where
  pub room_kept : w.room ≡ room
  pub nodes_kept : node_count w ≡ nodes
  pub agents_kept : w.agents ≡ agents
  pub sheet_kept : w.sheet ≡ sheet
  pub issuer_kept : w.issuer ≡ issuer

module _ (room nodes agents : ℕ) (sheet : Sheet) (issuer : Issuer) where
  opened_after : (w : World) (i : ℕ) (n : Node) (o : Option Packet) → IsAsOpened room nodes agents sheet issuer w → IsAsOpened room nodes agents sheet issuer (after w i n o)
  opened_after w i n None h = record { room_kept = h.room_kept; nodes_kept = length-slice_set w.nodes i n ∙ h.nodes_kept; agents_kept = h.agents_kept; sheet_kept = h.sheet_kept; issuer_kept = h.issuer_kept }
  opened_after w i n (Some q) h = record { room_kept = h.room_kept; nodes_kept = length-slice_set w.nodes i n ∙ h.nodes_kept; agents_kept = h.agents_kept; sheet_kept = h.sheet_kept; issuer_kept = h.issuer_kept }

  IsAsOpened-steps : IsKeptBySteps (IsAsOpened room nodes agents sheet issuer)
  IsAsOpened-steps = record {
    journals = λ w b h next. record { room_kept = h.room_kept; nodes_kept = h.nodes_kept; agents_kept = h.agents_kept; sheet_kept = h.sheet_kept; issuer_kept = h.issuer_kept };
    delivers = λ w i n q h may. opened_after w i (handled w i n q).node (handled w i n q).sends h;
    starts = λ w i n h may. opened_after w i (started w i n) (Some (start_packet w i n)) h;
    restarts = λ w i n h found. opened_after w i (wake n.kept) None h;
  }

-- ---- what is chosen stays chosen

pub record StaysChosen (N p : ℕ) (c : Cut) (w : World) : Type 0 where
  pub count : voter_count w ≡ N
  pub chosen : ChosenIn w.packets N p c

module _ (N p : ℕ) (c : Cut) where
  chosen_after : (w : World) (i : ℕ) (n : Node) (o : Option Packet) → StaysChosen N p c w → StaysChosen N p c (after w i n o)
  chosen_after w i n None h = record { count = h.count; chosen = h.chosen }
  chosen_after w i n (Some q) h = record { count = h.count; chosen = ChosenIn-more w.packets q N p c h.chosen }

  StaysChosen-steps : IsKeptBySteps (StaysChosen N p c)
  StaysChosen-steps = record {
    journals = λ w b h next. record { count = h.count; chosen = ChosenIn-more w.packets (CarriesBatch b) N p c h.chosen };
    delivers = λ w i n q h may. chosen_after w i (handled w i n q).node (handled w i n q).sends h;
    starts = λ w i n h may. chosen_after w i (started w i n) (Some (start_packet w i n)) h;
    restarts = λ w i n h found. chosen_after w i (wake n.kept) None h;
  }

pub contains_at : {A : Type 0} (xs : List A) (k : ℕ) (x : A) → slice_get xs k ≡ Some x → Contains xs x
contains_at xs k x e = (k, within, same_Some _ _ (sym (slice_get-get_or xs k x within) ∙ e))
  where
    within : k < length xs
    within = slice_get_within xs k x e

-- a node that is there has learned a prefix of the cuts
pub prefix_of_cuts : (w : World) (cuts : List Cut) → AreTheCuts w cuts → (i : ℕ) (n : Node) → slice_get w.nodes i ≡ Some n → IsPrefixOf n.kept.learned cuts
prefix_of_cuts w cuts are i n found = are.learned n (contains_at w.nodes i n found)

-- ---- every run

module _ (room voters observers agents : ℕ) (sheet : Sheet) (issuer : Issuer) (events : List Event) where
  forms_first : HasForms (opening_with room voters observers agents sheet issuer)
  forms_first = HasForms-opening room voters observers agents sheet issuer

  -- what each node keeps has a form that is read back
  pub forms : HasForms (play (opening_with room voters observers agents sheet issuer) events).1
  forms = play_kept HasForms HasForms-steps events (opening_with room voters observers agents sheet issuer) forms_first forms_first

  fitting : IsFitting voters (play (opening_with room voters observers agents sheet issuer) events).1
  fitting = play_kept (IsFitting voters) (IsFitting-steps voters) events (opening_with room voters observers agents sheet issuer) forms_first (IsFitting-opening room voters observers agents sheet issuer)

  pub as_opened : IsAsOpened room (voters + observers) agents sheet issuer (play (opening_with room voters observers agents sheet issuer) events).1
  as_opened = play_kept (IsAsOpened room (voters + observers) agents sheet issuer) (IsAsOpened-steps room (voters + observers) agents sheet issuer) events (opening_with room voters observers agents sheet issuer) forms_first
      (record { room_kept = refl; nodes_kept = length-replicate (voters + observers) (wake new_kept); agents_kept = refl; sheet_kept = refl; issuer_kept = refl })

  fitting_here : IsFitting (voter_count (play (opening_with room voters observers agents sheet issuer) events).1) (play (opening_with room voters observers agents sheet issuer) events).1
  fitting_here = subst (λ N. IsFitting N (play (opening_with room voters observers agents sheet issuer) events).1) (sym fitting.told.kept.count) fitting

  exports : (s : Snapshot) → Contains (play (opening_with room voters observers agents sheet issuer) events).0 (Exported s)
      → IsExport (play (opening_with room voters observers agents sheet issuer) events).1
      (the_cuts (play (opening_with room voters observers agents sheet issuer) events).1 fitting_here) s
  exports s has =
      let at = element_of _ _ has in
      let taken = all_taken voters events (opening_with room voters observers agents sheet issuer) forms_first (IsFitting-opening room voters observers agents sheet issuer) at.0 s at.1 in
      is_export (play (opening_with room voters observers agents sheet issuer) events).1 fitting_here s (subst (λ N. IsTaken N (play (opening_with room voters observers agents sheet issuer) events).1 s) (sym fitting.told.kept.count) taken)

  answers : AreAnswers events (play (opening_with room voters observers agents sheet issuer) events).0 (play (opening_with room voters observers agents sheet issuer) events).1
  answers = record {
    one_each = one_each events (opening_with room voters observers agents sheet issuer);
    asked = asked events (opening_with room voters observers agents sheet issuer);
    kept = kept voters events (opening_with room voters observers agents sheet issuer) forms_first (IsFitting-opening room voters observers agents sheet issuer);
    only = λ agent seq b has. elim (only voters events (opening_with room voters observers agents sheet issuer) forms_first (IsFitting-opening room voters observers agents sheet issuer) agent seq b has) [
      | inl before ↦ absurd (none-some b before)
      | inr found ↦ found
    ];
  }

  pub holds_after : HoldsAfter voters observers agents sheet issuer events (play (opening_with room voters observers agents sheet issuer) events).0 (play (opening_with room voters observers agents sheet issuer) events).1
  holds_after = record {
    answers = answers;
    nodes_kept = as_opened.nodes_kept;
    voters_kept = fitting.told.kept.count;
    agents_kept = as_opened.agents_kept;
    sheet_kept = as_opened.sheet_kept;
    issuer_kept = as_opened.issuer_kept;
    rules = fitting.rules;
    one = one_chosen (play (opening_with room voters observers agents sheet issuer) events).1 fitting_here;
    cuts = the_cuts (play (opening_with room voters observers agents sheet issuer) events).1 fitting_here;
    are_the_cuts = are_the_cuts (play (opening_with room voters observers agents sheet issuer) events).1 fitting_here;
    exports = exports;
    one_export = λ s t has had. one_export (play (opening_with room voters observers agents sheet issuer) events).1 (the_cuts (play (opening_with room voters observers agents sheet issuer) events).1 fitting_here) s t (exports s has) (exports t had);
    charged_once = charged_once (play (opening_with room voters observers agents sheet issuer) events).1 fitting_here;
  }

  -- what was chosen is chosen after more events too
  still_chosen : (more : List Event) (p : ℕ) (c : Cut) → IsChosen (play (opening_with room voters observers agents sheet issuer) events).1 p c → IsChosen (play (play (opening_with room voters observers agents sheet issuer) events).1 more).1 p c
  still_chosen more p c was =
      let w : World = (play (opening_with room voters observers agents sheet issuer) events).1 in
      let later : StaysChosen (voter_count w) p c (play w more).1 = play_kept (StaysChosen (voter_count w) p c) (StaysChosen-steps (voter_count w) p c) more w forms (record { count = refl; chosen = (was.ballot, was.by_majority) }) in
      let here : ChosenIn (play w more).1.packets (voter_count (play w more).1) p c = subst (λ N. ChosenIn (play w more).1.packets N p c) (sym later.count) later.chosen in
      record { ballot = here.0; by_majority = here.1 }

  pub cuts_grow : (more : List Event) (before after : List Cut) → AreTheCuts (play (opening_with room voters observers agents sheet issuer) events).1 before → AreTheCuts (play (opening_with room voters observers agents sheet issuer) (events ++ more)).1 after → IsPrefixOf before after
  cuts_grow more before after h k =
      let later : AreTheCuts (play (play (opening_with room voters observers agents sheet issuer) events).1 more).1 after = subst (λ w. AreTheCuts w after) (play-append (opening_with room voters observers agents sheet issuer) events more) k in
      same_entries before after (λ p c e. (later.chosen p c).1 (still_chosen more p c ((h.chosen p c).0 e)))

-- a legal history is a run, with its replies and its world
pub legal_holds_after : (room voters observers agents : ℕ) (sheet : Sheet) (issuer : Issuer) (history : List Entry) (reached : World)
    → IsLegal (opening_with room voters observers agents sheet issuer) history reached
    → HoldsAfter voters observers agents sheet issuer (map (λ e. e.event) history) (map (λ e. e.reply) history) reached
legal_holds_after room voters observers agents sheet issuer history reached legal =
    subst (λ replies. HoldsAfter voters observers agents sheet issuer (map (λ e. e.event) history) replies reached) legal.replies
    (subst (HoldsAfter voters observers agents sheet issuer _ _) legal.world (holds_after room voters observers agents sheet issuer (map (λ e. e.event) history)))
