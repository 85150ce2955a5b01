-- The transcript of one event more.
use Rattle.std.proofs.Common.{◌≡◌, ℕ, ◌+◌, ◌⊎◌, List, [], ◌∷◌, ◌++◌, length, take, drop, Option, Some, inl, inr, ⊎_elim, sym, ap, subst, ◌∙◌, arith, append_assoc}
use Rattle.std.specs.Io.KnownBytes.{Appends}
use Rattle.std.specs.List.{slice_get}
use Rattle.std.proofs.KnownBytes.{Appends-trans}
use Rattle.std.proofs.lemmas.List.{append-nil, map-append, map_more, take-append-drop, take_all}
use Rattle.std.proofs.lemmas.Grind.{flat_map-append}
use Rattle.std.proofs.lemmas.Option.{get_or_from_slice_get, slice_get_within}
use Rattle.counted_io.specs.Writing.{AppendsPrefix}
use Rattle.counted_io.proofs.Prefixes.{prefix_behind, prefix_within}
use Rattle.metering_model.specs.World.{World, Event}
use Rattle.metering_model.specs.Schedule.{Planned, event_of}
use Rattle.metering_model.specs.Step.{play, step}
use Rattle.metering_model.specs.Transcript.{reply_text, transcript}
use Rattle.metering_model.proofs.PlayLaws.{play-last, replies-append}
use Rattle.schedule_player.specs.Inner.Playing.{IsTold, IsWorldAfter, events_of, text_of, world_after}

-- events behind others
text_parts : (w : World) (es more : List Event) → text_of w (es ++ more) ≡ text_of w es ++ text_of (play w es).1 more
text_parts w es more =
    ap transcript (replies-append w es more) ∙ flat_map-append reply_text (play w es).0 (play (play w es).1 more).0

text_last : (w : World) (es : List Event) (e : Event) → text_of w (es ++ e ∷ []) ≡ text_of w es ++ reply_text (step (play w es).1 e).0
text_last w es e = text_parts w es (e ∷ []) ∙ ap (λ t. text_of w es ++ t) (append-nil (reply_text (step (play w es).1 e).0))

events_split : (events : List Planned) (i : ℕ) → events_of events ≡ events_of (take i events) ++ events_of (drop i events)
events_split events i = ap events_of (sym (take-append-drop i events)) ∙ map-append event_of (take i events) (drop i events)

events_more : (events : List Planned) (i : ℕ) (e : Planned) → slice_get events i ≡ Some e
    → events_of (take (i + 1) events) ≡ events_of (take i events) ++ event_of e ∷ []
events_more events i e at =
    map_more event_of events i e (slice_get_within events i e at)
    ∙ ap (λ x. events_of (take i events) ++ event_of x ∷ []) (get_or_from_slice_get events i e e at)

module _ (w u v : World) (events : List Planned) (i : ℕ) (e : Planned) (at : slice_get events i ≡ Some e) where
  -- the world after one event more
  pub world_more : u ≡ world_after w events i → v ≡ (step u (event_of e)).1 → v ≡ world_after w events (i + 1)
  world_more here after =
      after ∙ (ap (λ x. (step x (event_of e)).1) here ∙ (sym (play-last w (events_of (take i events)) (event_of e)) ∙ ap (λ es. (play w es).1) (sym (events_more events i e at))))

  -- the world where one event more was done, or not
  pub world_left : u ≡ world_after w events i → (v ≡ u) ⊎ (v ≡ (step u (event_of e)).1) → IsWorldAfter w events i v
  world_left here = ⊎_elim (λ same. inl (same ∙ here)) (λ stepped. inr (slice_get_within events i e at, world_more here stepped))

  -- what was written and what waits, after one event more
  pub text_more : (written waits more : List ℕ) → u ≡ world_after w events i → written ++ waits ≡ text_of w (events_of (take i events))
      → more ≡ waits ++ reply_text (step u (event_of e)).0 → written ++ more ≡ text_of w (events_of (take (i + 1) events))
  text_more written waits more here so_far after =
      let text = reply_text (step u (event_of e)).0 in
      ap (λ t. written ++ t) after ∙ (sym (append_assoc written waits text) ∙ (ap (λ t. t ++ text) so_far
      ∙ (ap (λ x. text_of w (events_of (take i events)) ++ reply_text (step x (event_of e)).0) here
      ∙ (sym (text_last w (events_of (take i events)) (event_of e)) ∙ ap (text_of w) (sym (events_more events i e at))))))

-- some of what waits is written
pub still_all : (written part waits more text : List ℕ) → part ++ waits ≡ more → written ++ more ≡ text → (written ++ part) ++ waits ≡ text
still_all written part waits more text split all = append_assoc written part waits ∙ (ap (λ t. written ++ t) split ∙ all)

module _ (a b c : Option (List ℕ)) (w : World) (events : List Planned) (i : ℕ) (waits : List ℕ) (told : IsTold a b waits w events i) where
  -- what waits is written behind what was written
  pub told_whole : Appends b c waits → Appends a c (text_of w (events_of (take i events)))
  told_whole more = subst (Appends a c) told.2 (Appends-trans a b c told.0 waits told.1 more)

  -- a prefix of what waits is, and so a prefix of the transcript of all events
  pub told_prefix : AppendsPrefix b c waits → AppendsPrefix a c (text_of w (events_of events))
  told_prefix more =
      let first = events_of (take i events) in
      let rest = events_of (drop i events) in
      let part : AppendsPrefix a c (text_of w first) = subst (AppendsPrefix a c) told.2 (prefix_behind a b c told.0 waits told.1 more) in
      subst (AppendsPrefix a c) (sym (ap (text_of w) (events_split events i) ∙ text_parts w first rest))
      (prefix_within a c (text_of w first) (text_of (play w first).1 rest) part)

-- where all events were done, their text is the text of all
pub text_all : (w : World) (events : List Planned) (done : ℕ) → done ≡ length events → text_of w (events_of (take done events)) ≡ text_of w (events_of events)
text_all w events done all = ap (λ es. text_of w (events_of es)) (take_all done events (omega (arith, all)))
