-- What is found of one batch more.
use Rattle.std.proofs.Common.{◌≡◌, ◌<◌, ◌≤◌, ◌⊎◌, ◌&&◌, ℕ, suc, length, drop, ◌+◌, ◌-◌, Bool, true, false, max, List, [], ◌∷◌, ◌++◌, map, All, refl, sym, ap, subst, ◌∙◌, inl, inr, ⊎_elim, arith}
use Rattle.std.specs.List.{fold}
use Rattle.std.proofs.lemmas.List.{map-append}
use Rattle.std.proofs.lemmas.List.Elements.{All-push}
use Rattle.std.proofs.lemmas.List.Folds.{list_all-append}
use Rattle.std.proofs.lemmas.List.Sums.{fold-append}
use Rattle.std.proofs.lemmas.Bool.{cases_lt}
use Rattle.metering_model.specs.Front.{is_due}
use Rattle.metering_model.specs.Sheet.{Sheet, Issuer}
use Rattle.metering_model.specs.Limits.{last_period}
use Rattle.metering_model.specs.RatedAlone.{world_before}
use Rattle.metering_model.specs.Step.{play, step}
use Rattle.metering_model.specs.World.{World}
use Rattle.metering_model.proofs.PlayLaws.{play-last, replies-last}
use Rattle.row_laws.proofs.DueLaws.{due_later}
use Rattle.batch_view.specs.Batches.{batch_of}
use Rattle.schedule_writer.specs.declared.judging.Asked.{Asked}
use Rattle.schedule_writer.specs.Inputs.{Offered, Offers, IsLastStart, agents_of, are_due, batches_of, item_length, items_in}
use Rattle.schedule_writer.specs.Refusals.{IsJournaled, answer_to, answers_to, journal_of, world_behind}
use Rattle.schedule_writer.specs.Inner.Judged.{IsAskedToo, IsJudged, IsLaterStart, IsRefusedAmong, IsRefusedHere, IsRefusedNow}
use Rattle.schedule_writer.proofs.ItemLaws.{item_next}

-- ---- the world

world_more : (sheet : Sheet) (issuer : Issuer) (w v : World) (bs : List Offered) (b : Offered) → w ≡ world_behind sheet issuer bs → v ≡ (step w (journal_of b)).1
    → v ≡ world_behind sheet issuer (bs ++ b ∷ [])
world_more sheet issuer w v bs b here after =
    after ∙ (ap (λ x. (step x (journal_of b)).1) here ∙ (sym (play-last (world_before sheet issuer) (map journal_of bs) (journal_of b))
    ∙ ap (λ es. (play (world_before sheet issuer) es).1) (sym (map-append journal_of bs (b ∷ [])))))

answers_last : (sheet : Sheet) (issuer : Issuer) (bs : List Offered) (b : Offered)
    → answers_to sheet issuer (bs ++ b ∷ []) ≡ answers_to sheet issuer bs ++ answer_to (world_behind sheet issuer bs) b.text ∷ []
unfolding answer_to
answers_last sheet issuer bs b =
    ap (λ es. (play (world_before sheet issuer) es).0) (map-append journal_of bs (b ∷ []))
    ∙ replies-last (world_before sheet issuer) (map journal_of bs) (journal_of b)

taken_more : (sheet : Sheet) (issuer : Issuer) (w : World) (bs : List Offered) (b : Offered) → w ≡ world_behind sheet issuer bs
    → All IsJournaled (answers_to sheet issuer bs) → IsJournaled (answer_to w b.text) → All IsJournaled (answers_to sheet issuer (bs ++ b ∷ []))
taken_more sheet issuer w bs b here all one =
    subst (All IsJournaled) (sym (answers_last sheet issuer bs b))
    (All-push IsJournaled (answers_to sheet issuer bs) (answer_to (world_behind sheet issuer bs) b.text) all (subst (λ x. IsJournaled (answer_to x b.text)) here one))

-- ---- agents and periods

agents_more : (bs : List Offered) (b : Offered) → max (agents_of bs) (batch_of b.text).agent ≡ agents_of (bs ++ b ∷ [])
agents_more bs b =
    sym (ap (fold max 1) (map-append (λ o. (batch_of o.text).agent) bs (b ∷ []))
    ∙ fold-append max 1 (map (λ o. (batch_of o.text).agent) bs) ((batch_of b.text).agent ∷ []))

both : (a b : Bool) → a ≡ true → b ≡ true → (a && (b && true)) ≡ true
both true true x y = refl
both true false x y = y
both false b x y = x

first_is_false : (a b : Bool) → a ≡ false → (a && (b && true)) ≡ false
first_is_false false b is = refl
first_is_false true b is = absurd (cc)

other_is_false : (a b : Bool) → b ≡ false → (a && (b && true)) ≡ false
other_is_false true false is = refl
other_is_false false false is = refl
other_is_false a true is = absurd (cc)

split_true : (a b : Bool) → (a && b) ≡ true → (a ≡ true) × (b ≡ true)
split_true true b is = (refl, is)
split_true false b is = absurd (cc)

both_true : (a b : Bool) → a ≡ true → b ≡ true → (a && b) ≡ true
both_true true b x y = y
both_true false b x y = x

are_due_later : (base p q : ℕ) (bs : List Offered) → p ≤ q → are_due base p bs ≡ true → are_due base q bs ≡ true
are_due_later base p q [] up is = refl
are_due_later base p q (b ∷ bs) up is =
    let so = split_true (is_due base p (batch_of b.text)) (are_due base p bs) is in
    both_true (is_due base q (batch_of b.text)) (are_due base q bs) (due_later base p q (batch_of b.text) up so.0) (are_due_later base p q bs up so.1)

due_of_more : (base q : ℕ) (bs : List Offered) (b : Offered) → are_due base q (bs ++ b ∷ []) ≡ (are_due base q bs && (is_due base q (batch_of b.text) && true))
due_of_more base q bs b = list_all-append (λ o. is_due base q (batch_of o.text)) bs (b ∷ [])

last_more : (base p q : ℕ) (bs : List Offered) (b : Offered) → IsLastStart base bs p → IsLaterStart base (batch_of b.text) p q → IsLastStart base (bs ++ b ∷ []) q
last_more base p q bs b last later = record { within = later.within; none_behind = none_behind; one_there = one_there }
  where
    none_behind : (q ≡ last_period) ⊎ (are_due base q (bs ++ b ∷ []) ≡ true)
    none_behind =
        ⊎_elim inl
        (λ due. ⊎_elim (λ end. inl (omega (arith, later.later, later.within)))
        (λ all. inr (due_of_more base q bs b ∙ both (are_due base q bs) (is_due base q (batch_of b.text)) (are_due_later base p q bs later.later all) due))
        last.none_behind)
        later.none_behind

    one_there : (q ≡ 0) ⊎ (are_due base (q - 1) (bs ++ b ∷ []) ≡ false)
    one_there =
        ⊎_elim (λ less. inr (due_of_more base (q - 1) bs b ∙ other_is_false (are_due base (q - 1) bs) (is_due base (q - 1) (batch_of b.text)) (later.not_before (q - 1) (omega arith) (omega arith))))
        (λ up.
        let same : p ≡ q = omega (arith, later.later) in
        ⊎_elim (λ none. inl (omega arith))
        (λ some. inr (due_of_more base (q - 1) bs b ∙ first_is_false (are_due base (q - 1) bs) (is_due base (q - 1) (batch_of b.text)) (ap (λ k. are_due base (k - 1) bs) (sym same) ∙ some)))
        last.one_there)
        (cases_lt p q)

-- ---- one batch more

pub judged_more : (sheet : Sheet) (issuer : Issuer) (bs : List Offered) (b : Offered) (w v : World) (asked more : Asked)
    → IsJudged sheet issuer bs w asked.agents asked.last → IsJournaled (answer_to w b.text) → v ≡ (step w (journal_of b)).1
    → IsAskedToo sheet.base (batch_of b.text) asked more → IsJudged sheet issuer (bs ++ b ∷ []) v more.agents more.last
judged_more sheet issuer bs b w v asked more so journaled after too =
    record {
      world = world_more sheet issuer w v bs b so.world after;
      taken = taken_more sheet issuer w bs b so.world so.taken journaled;
      asked = record {
        are_agents = too.agents ∙ (ap (λ n. max n (batch_of b.text).agent) so.asked.are_agents ∙ agents_more bs b);
        is_last = last_more sheet.base asked.last more.last bs b so.asked.is_last too.last;
      };
    }

pub nothing_judged : (sheet : Sheet) (issuer : Issuer) (w : World) → w ≡ world_before sheet issuer → IsJudged sheet issuer [] w 1 0
nothing_judged sheet issuer w is =
    record {
      world = is;
      taken = λ k d below. absurd (omega arith);
      asked = record {
        are_agents = refl;
        is_last = record { within = omega arith; none_behind = inr refl; one_there = inl refl };
      };
    }

-- the batch that is refused parts the others
pub refused_among : (input : List ℕ) (sheet : Sheet) (issuer : Issuer) (all before behind : List Offered) (b : Offered) (w : World) (agents last : ℕ) (told : List ℕ)
    → all ≡ before ++ b ∷ behind → IsJudged sheet issuer before w agents last → IsRefusedNow input w b told → IsRefusedAmong input sheet issuer all told
refused_among input sheet issuer all before behind b w agents last told parts so refused =
    record {
      before = before;
      batch = b;
      behind = behind;
      all = parts;
      taken = so.taken;
      refused = subst (λ x. IsRefusedNow input x b told) so.world refused;
    }

-- what was found so far stands before it
pub refused_here : (input : List ℕ) (sheet : Sheet) (issuer : Issuer) (all found : List Offered) (k most here : ℕ) (w : World) (agents last : ℕ) → most ≡ suc k
    → 0 < length (drop here input) → found ++ batches_of (items_in most input here) ≡ all → IsJudged sheet issuer found w agents last
    → (told : List ℕ) → IsRefusedHere input here w told → IsRefusedAmong input sheet issuer all told
refused_here input sheet issuer all found k most here w agents last more some so judged told is =
    let rest = items_in k input (here + item_length (drop here input)) in
    let next : items_in most input here ≡ Offers is.batch ∷ rest
    = ap (λ n. items_in n input here) more ∙ (item_next k input here some ∙ ap (λ i. i ∷ rest) is.is_there) in
    refused_among input sheet issuer all found (batches_of rest) is.batch w agents last told (sym so ∙ ap (λ is. found ++ batches_of is) next) judged is.refused

-- with one batch more that was put behind the others
pub judged_put : (sheet : Sheet) (issuer : Issuer) (bs cs : List Offered) (b : Offered) (w v : World) (asked more put : Asked)
    → IsJudged sheet issuer bs w asked.agents asked.last → IsJournaled (answer_to w b.text) → v ≡ (step w (journal_of b)).1
    → IsAskedToo sheet.base (batch_of b.text) asked more → cs ≡ bs ++ b ∷ [] → put ≡ more → IsJudged sheet issuer cs v put.agents put.last
judged_put sheet issuer bs cs b w v asked more put so journaled after too behind same =
    subst (λ (a : Asked). IsJudged sheet issuer cs v a.agents a.last) (sym same)
    (subst (λ xs. IsJudged sheet issuer xs v more.agents more.last) (sym behind) (judged_more sheet issuer bs b w v asked more so journaled after too))
