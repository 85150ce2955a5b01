-- What is kept within its limits has a text, and what has a text is within the limits.
use Rattle.std.proofs.Common.{◌≡◌, ℕ, zero, suc, ◌+◌, ◌≤◌, ◌<◌, List, [], ◌∷◌, length, map, take, drop, All, Bool, IsTrue, Some, Result, Ok, Err, get_or, refl, sym, ap, ◌∙◌, subst, arith}
use Rattle.std.proofs.lemmas.List.Elements.{All-nil, All-cons, All-head, All-tail}
use Rattle.metering_model.specs.Ballot.{Vote}
use Rattle.metering_model.specs.Cut.{Cut}
use Rattle.metering_model.specs.KeptText.{KeptAmong, IsCutAmong, HasText, kept_text, kept_in, kept_offer_of}
use Rattle.metering_model.specs.World.{KeptGood, KeptBad}
use Rattle.metering_model.specs.declared.KeptTextFault.{KeptTextFault}
use Rattle.metering_model.proofs.KeptLaws.{kept_read, read_back, writable_of}
use Rattle.batch_store.specs.Limits.{IsCut}
use Rattle.batch_store.specs.Stores.{IsStored}
use Rattle.node_kept.specs.Kept.{IsKept}

among : (agents : ℕ) (cuts : List Cut) → All (λ cut. length cut ≡ agents) cuts → All IsCut cuts → All (IsCutAmong agents) cuts
among agents [] sizes are = All-nil (IsCutAmong agents)
among agents (c ∷ cs) sizes are =
    All-cons (IsCutAmong agents) c cs
    (record { size = All-head (λ cut. length cut ≡ agents) c cs sizes; low = (All-head IsCut c cs are).entries })
    (among agents cs (All-tail (λ cut. length cut ≡ agents) c cs sizes) (All-tail IsCut c cs are))

pub has_text : (k : KeptAmong) → IsKept k → All IsCut k.kept.learned → ((v : Vote) → k.kept.acceptor.vote ≡ Some v → IsCut v.cut) → IsStored (record { agents = k.agents; batches = k.kept.holding }) → HasText k
has_text k is cuts vote stored = record {
  agents = (stored.agents_from, stored.agents_to);
  round = is.round;
  periods = is.periods;
  learned = among k.agents k.kept.learned is.cuts cuts;
  promised = is.promised;
  vote = λ v e. let kept = is.vote v e in (kept.0, record { size = kept.1; low = (vote v e).entries });
  is_holding = stored.is_holding;
  in_range = stored.of_agents;
}

sizes_of : (agents : ℕ) (cuts : List Cut) → All (IsCutAmong agents) cuts → All (λ cut. length cut ≡ agents) cuts
sizes_of agents [] are = All-nil (λ cut. length cut ≡ agents)
sizes_of agents (c ∷ cs) are = All-cons (λ cut. length cut ≡ agents) c cs (All-head (IsCutAmong agents) c cs are).size (sizes_of agents cs (All-tail (IsCutAmong agents) c cs are))

pub is_kept : (k : KeptAmong) → HasText k → IsKept k
is_kept k h = record {
  round = h.round;
  periods = h.periods;
  cuts = sizes_of k.agents k.kept.learned h.learned;
  promised = h.promised;
  vote = λ v e. let kept = h.vote v e in (kept.0, kept.1.size);
}

-- ---- all that a loop has seen

-- one element more
pub all_more : {A B : Type 0} (f : A → B) (P : B → Type 0) (xs : List A) (k : ℕ) (x : A) → k < length xs → x ≡ get_or xs k x → All P (map f (take k xs)) → P (f x) → All P (map f (take (k + 1) xs))
all_more f P [] k x low e all one = absurd (omega (arith, low))
all_more f P (y ∷ ys) zero x low e all one = All-cons P (f y) [] (subst (λ z. P (f z)) e one) (All-nil P)
all_more f P (y ∷ ys) (suc k) x low e all one =
    let next : suc (k + 1) ≡ suc k + 1 = omega arith in
    subst (λ n. All P (map f (take n (y ∷ ys)))) next
    (All-cons P (f y) (map f (take (k + 1) ys)) (All-head P (f y) (map f (take k ys)) all) (all_more f P ys k x (omega (arith, low)) e (All-tail P (f y) (map f (take k ys)) all) one))

-- and all of them at the end
pub all_taken : {A B : Type 0} (f : A → B) (P : B → Type 0) (xs : List A) (k : ℕ) → length xs ≤ k → All P (map f (take k xs)) → All P (map f xs)
all_taken f P [] zero end all = all
all_taken f P [] (suc k) end all = all
all_taken f P (x ∷ xs) zero end all = absurd (omega (arith, end))
all_taken f P (x ∷ xs) (suc k) end all =
    All-cons P (f x) (map f xs) (All-head P (f x) (map f (take k xs)) all) (all_taken f P xs k (omega (arith, end)) (All-tail P (f x) (map f (take k xs)) all))

-- ---- offers

-- two texts are of the same offer exactly where they are of the same thing
pub good_same : (b : Bool) (k l : KeptAmong) → HasText k × HasText l → (IsTrue b → k ≡ l) × (k ≡ l → IsTrue b) → (IsTrue b → KeptGood (kept_text k) ≡ KeptGood (kept_text l)) × (KeptGood (kept_text k) ≡ KeptGood (kept_text l) → IsTrue b)
good_same b k l has same = (λ t. ap (λ x. KeptGood (kept_text x)) (same.0 t), λ e. same.1 (read_back k l has.0 (writable_of l has.1) (text_of e)))
  where
    text_of : KeptGood (kept_text k) ≡ KeptGood (kept_text l) → kept_text k ≡ kept_text l
    text_of e = cc

pub good_offer : (text : List ℕ) (k : KeptAmong) → kept_in text ≡ Ok k → KeptGood (kept_text k) ≡ kept_offer_of text
good_offer text k e = ap KeptGood (sym (kept_read text k e).joined) ∙ sym (by_read (kept_in text) e)
  where
    by_read : (r : Result KeptAmong KeptTextFault) → r ≡ Ok k → (elim r [ Ok x ↦ KeptGood text | Err fault ↦ KeptBad fault ]) ≡ KeptGood text
    by_read (Ok x) h = refl
    by_read (Err fault) h = absurd (cc)

pub kept_of_read : (text : List ℕ) (k : KeptAmong) → kept_in text ≡ Ok k → IsKept k
kept_of_read text k e = is_kept k (kept_read text k e).has

pub good_same_at : (b : Bool) (k l m n : KeptAmong) → k ≡ m → l ≡ n → HasText k × HasText l → (IsTrue b → k ≡ l) × (k ≡ l → IsTrue b)
    → (IsTrue b → KeptGood (kept_text m) ≡ KeptGood (kept_text n)) × (KeptGood (kept_text m) ≡ KeptGood (kept_text n) → IsTrue b)
good_same_at b k l m n one two has same =
    subst (λ x. (IsTrue b → KeptGood (kept_text x) ≡ KeptGood (kept_text n)) × (KeptGood (kept_text x) ≡ KeptGood (kept_text n) → IsTrue b)) one
    (subst (λ y. (IsTrue b → KeptGood (kept_text k) ≡ KeptGood (kept_text y)) × (KeptGood (kept_text k) ≡ KeptGood (kept_text y) → IsTrue b)) two (good_same b k l has same))

-- what lists have at a place is the same where the lists are
pub same_at : {A B : Type 0} (f : A → B) (xs ys : List A) (k : ℕ) (x y : A) → map f xs ≡ map f ys → k < length xs → x ≡ get_or xs k x → y ≡ get_or ys k y → f x ≡ f y
same_at f [] ys k x y same low e d = absurd (omega (arith, low))
same_at f (u ∷ us) [] k x y same low e d = absurd (omega (arith, ap length same))
same_at f (u ∷ us) (v ∷ vs) zero x y same low e d = ap f e ∙ ap (λ zs. get_or zs 0 (f u)) same ∙ ap f (sym d)
same_at f (u ∷ us) (v ∷ vs) (suc k) x y same low e d = same_at f us vs k x y (ap (drop 1) same) (omega (arith, low)) e d
