-- Whether two replies are the same, by their variants.
use Rattle.std.proofs.Common.{◌≡◌, ℕ, Bool, true, false, List, Option, Some, None, Decides, Global, refl, sym, ap, ap₂, ◌∙◌}
use Rattle.std.specs.Prelude.{◌==◌, Vec}
use Rattle.std.specs.Option.{option_eq}
use Rattle.std.proofs.lemmas.Bool.{false≢true}
use Rattle.std.proofs.lemmas.Bool.Decides.{Decides-eqb}
use Rattle.metering_model.specs.World as model
use Rattle.metering_model.specs.declared.Refusal.{Refusal}
use Rattle.group_events.specs.Replies.{reply_of}
use Rattle.group_events.specs.declared.replies.Reply.{Reply}
use Rattle.group_events.specs.declared.replies.Reply.TheVariants.{Journaled, Delivered, Started, Restarted, Exported, KeptText, Refused}

-- A reply that stands for one of a variant is of that variant.
pub no_journaled : (p : ℕ) (b : Reply) → ((x : ℕ) → b ≡ Journaled x → ⊥) → model.Journaled p ≡ reply_of b → ⊥
no_journaled p (Journaled packet) other e = other packet refl
no_journaled p (Delivered sent learned) other e = absurd (cc)
no_journaled p (Started ballot packet) other e = absurd (cc)
no_journaled p Restarted other e = absurd (cc)
no_journaled p (Exported snapshot) other e = absurd (cc)
no_journaled p (KeptText text) other e = absurd (cc)
no_journaled p (Refused refusal) other e = absurd (cc)

pub no_delivered : (s : Option ℕ) (l : Option ℕ) (b : Reply) → ((x y : Option ℕ) → b ≡ Delivered x y → ⊥) → model.Delivered s l ≡ reply_of b → ⊥
no_delivered s l (Journaled packet) other e = absurd (cc)
no_delivered s l (Delivered sent learned) other e = other sent learned refl
no_delivered s l (Started ballot packet) other e = absurd (cc)
no_delivered s l Restarted other e = absurd (cc)
no_delivered s l (Exported snapshot) other e = absurd (cc)
no_delivered s l (KeptText text) other e = absurd (cc)
no_delivered s l (Refused refusal) other e = absurd (cc)

pub no_started : (p : ℕ) (q : ℕ) (b : Reply) → ((x y : ℕ) → b ≡ Started x y → ⊥) → model.Started p q ≡ reply_of b → ⊥
no_started p q (Journaled packet) other e = absurd (cc)
no_started p q (Delivered sent learned) other e = absurd (cc)
no_started p q (Started ballot packet) other e = other ballot packet refl
no_started p q Restarted other e = absurd (cc)
no_started p q (Exported snapshot) other e = absurd (cc)
no_started p q (KeptText text) other e = absurd (cc)
no_started p q (Refused refusal) other e = absurd (cc)

pub no_restarted : (b : Reply) → (b ≡ Restarted → ⊥) → model.Restarted ≡ reply_of b → ⊥
no_restarted (Journaled packet) other e = absurd (cc)
no_restarted (Delivered sent learned) other e = absurd (cc)
no_restarted (Started ballot packet) other e = absurd (cc)
no_restarted Restarted other e = other refl
no_restarted (Exported snapshot) other e = absurd (cc)
no_restarted (KeptText text) other e = absurd (cc)
no_restarted (Refused refusal) other e = absurd (cc)

pub no_exported : (s : model.Snapshot) (b : Reply) → ((x : model.Snapshot) → b ≡ Exported x → ⊥) → model.Exported s ≡ reply_of b → ⊥
no_exported s (Journaled packet) other e = absurd (cc)
no_exported s (Delivered sent learned) other e = absurd (cc)
no_exported s (Started ballot packet) other e = absurd (cc)
no_exported s Restarted other e = absurd (cc)
no_exported s (Exported snapshot) other e = other snapshot refl
no_exported s (KeptText text) other e = absurd (cc)
no_exported s (Refused refusal) other e = absurd (cc)

pub no_kept_text : (t : List ℕ) (b : Reply) → ((x : Vec ℕ Global) → b ≡ KeptText x → ⊥) → model.KeptText t ≡ reply_of b → ⊥
no_kept_text t (Journaled packet) other e = absurd (cc)
no_kept_text t (Delivered sent learned) other e = absurd (cc)
no_kept_text t (Started ballot packet) other e = absurd (cc)
no_kept_text t Restarted other e = absurd (cc)
no_kept_text t (Exported snapshot) other e = absurd (cc)
no_kept_text t (KeptText text) other e = other text refl
no_kept_text t (Refused refusal) other e = absurd (cc)

pub no_refused : (r : Refusal) (b : Reply) → ((x : Refusal) → b ≡ Refused x → ⊥) → model.Refused r ≡ reply_of b → ⊥
no_refused r (Journaled packet) other e = absurd (cc)
no_refused r (Delivered sent learned) other e = absurd (cc)
no_refused r (Started ballot packet) other e = absurd (cc)
no_refused r Restarted other e = absurd (cc)
no_refused r (Exported snapshot) other e = absurd (cc)
no_refused r (KeptText text) other e = absurd (cc)
no_refused r (Refused refusal) other e = other refusal refl

-- where the first part differs, and where it is the same
same_options : (a b : Option ℕ) → Decides (option_eq ◌==◌ a b) (a ≡ b)
same_options None None = (λ _. refl, λ _. refl)
same_options None (Some y) = (λ t. absurd (false≢true t), λ e. absurd (cc))
same_options (Some x) None = (λ t. absurd (false≢true t), λ e. absurd (cc))
same_options (Some x) (Some y) = (λ t. ap Some ((Decides-eqb x y).0 t), λ e. (Decides-eqb x y).1 (inner e))
  where
    inner : ◌≡◌ {A = Option ℕ} (Some x) (Some y) → x ≡ y
    inner e = cc

delivered_parts : (s t l m : Option ℕ) → model.Delivered s l ≡ model.Delivered t m → (s ≡ t) × (l ≡ m)
delivered_parts s t l m e = (cc, cc)

started_parts : (p q b d : ℕ) → model.Started b p ≡ model.Started d q → (b ≡ d) × (p ≡ q)
started_parts p q b d e = (cc, cc)

pub other_sent : (s t l m : Option ℕ) (r : Bool) → r ≡ option_eq ◌==◌ s t → r ≡ false → Decides r (model.Delivered s l ≡ model.Delivered t m)
other_sent s t l m r is differs = (λ t. absurd (false≢true (sym differs ∙ t)), λ e. is ∙ (same_options s t).1 (delivered_parts s t l m e).0)

pub same_sent : (s t l m : Option ℕ) (r last : Bool) → r ≡ option_eq ◌==◌ s t → r ≡ true → last ≡ option_eq ◌==◌ l m → Decides last (model.Delivered s l ≡ model.Delivered t m)
same_sent s t l m r last is same learned =
    (λ e. ap₂ (λ x y. model.Delivered x y) ((same_options s t).0 (sym is ∙ same)) ((same_options l m).0 (sym learned ∙ e)), λ e. learned ∙ (same_options l m).1 (delivered_parts s t l m e).1)

pub other_ballot : (b d p q : ℕ) (r : Bool) → r ≡ (b == d) → r ≡ false → Decides r (model.Started b p ≡ model.Started d q)
other_ballot b d p q r is differs = (λ t. absurd (false≢true (sym differs ∙ t)), λ e. is ∙ (Decides-eqb b d).1 (started_parts p q b d e).0)

pub same_ballot : (b d p q : ℕ) (r : Bool) → r ≡ (b == d) → r ≡ true → Decides (p == q) (model.Started b p ≡ model.Started d q)
same_ballot b d p q r is same =
    (λ e. ap₂ (λ x y. model.Started x y) ((Decides-eqb b d).0 (sym is ∙ same)) ((Decides-eqb p q).0 e), λ e. (Decides-eqb p q).1 (started_parts p q b d e).1)

pub same_exports : (one two : model.Snapshot) (r : Bool) → Decides r (one ≡ two) → Decides r (model.Exported one ≡ model.Exported two)
same_exports one two r d = (λ e. ap model.Exported (d.0 e), λ e. d.1 (inner e))
  where
    inner : model.Exported one ≡ model.Exported two → one ≡ two
    inner e = cc
