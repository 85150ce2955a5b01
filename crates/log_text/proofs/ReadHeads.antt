-- The head line of a log is read by its parts.
use Rattle.std.proofs.Common.{◌≡◌, ℕ, ◌+◌, Bool, true, false, cond, List, [], ◌∷◌, Option, Some, None, Result, Ok, Err, ok_or, codes, refl, ap, ◌∙◌}
use Rattle.std.specs.Prelude.{nat_le}
use Rattle.metering_model.specs.FirstFailure.{◌>>=◌, holds_or}
use Rattle.metering_model.specs.BatchReading.{is_same, whole_in}
use Rattle.packet_text.specs.PacketText.{is_group}
use Rattle.log_text.specs.LogText.{BadHead, LogCode, LogHead, Who, head_in, is_among, who_in}
use Rattle.log_text.specs.Inner.Reading.{Sizes, sizes_in}

abbrev AHead : Type 0
AHead = Result LogHead LogCode

abbrev head_of : List ℕ → Who → Sizes → LogHead
head_of group w s = record { group = group; who = w; voters = s.voters; observers = s.observers; agents = s.agents }

-- a head of these parts, if its node or agent is in the group
abbrev own : List ℕ → Who → Sizes → AHead
own group w s = cond (is_among w s.nodes s.agents) (Ok (head_of group w s)) (Err BadHead)

abbrev of_sizes : List ℕ → Who → Option Sizes → AHead
of_sizes group w o = elim o [ None ↦ Err BadHead | Some s ↦ own group w s ]

abbrev of_who : List ℕ → Option Who → Option Sizes → AHead
of_who group o sizes = elim o [ None ↦ Err BadHead | Some w ↦ of_sizes group w sizes ]

abbrev by_parts : List ℕ → Bool → Bool → Option Who → Option Sizes → AHead
by_parts group format name who sizes = cond format (cond name (of_who group who sizes) (Err BadHead)) (Err BadHead)

abbrev sizes_of : Option ℕ → Option ℕ → Option ℕ → Option Sizes
sizes_of voters observers agents = elim voters [
  | None ↦ None
  | Some v ↦ elim observers [
    | None ↦ None
    | Some o ↦ elim agents [ None ↦ None | Some a ↦ cond (nat_le (v + o) 99) (Some (record { voters = v; observers = o; nodes = v + o; agents = a })) None ]
  ]
]

last_test : (among : Bool) (h : LogHead) → (holds_or among BadHead >>= λ _. Ok h) ≡ cond among (Ok h) (Err BadHead)
last_test true h = refl
last_test false h = refl

fit_test : (fits : Bool) (group : List ℕ) (w : Who) (s : Sizes)
    → (holds_or fits BadHead >>= λ _. holds_or (is_among w s.nodes s.agents) BadHead >>= λ _. Ok (head_of group w s)) ≡ of_sizes group w (cond fits (Some s) None)
fit_test true group w s = last_test (is_among w s.nodes s.agents) (head_of group w s)
fit_test false group w s = refl

-- the tests of a head line, one after the other
abbrev in_turn : List ℕ → Bool → Bool → Option Who → Option ℕ → Option ℕ → Option ℕ → AHead
in_turn group format name who voters observers agents = do
  _ ← holds_or format BadHead
  _ ← holds_or name BadHead
  w ← ok_or who BadHead
  v ← ok_or voters BadHead
  o ← ok_or observers BadHead
  a ← ok_or agents BadHead
  _ ← holds_or (nat_le (v + o) 99) BadHead
  _ ← holds_or (is_among w (v + o) a) BadHead
  Ok (record { group = group; who = w; voters = v; observers = o; agents = a })

same_by_parts : (group : List ℕ) (format name : Bool) (who : Option Who) (v o a : Option ℕ) → in_turn group format name who v o a ≡ by_parts group format name who (sizes_of v o a)
same_by_parts group false name who v o a = refl
same_by_parts group true false who v o a = refl
same_by_parts group true true None v o a = refl
same_by_parts group true true (Some w) None o a = refl
same_by_parts group true true (Some w) (Some v) None a = refl
same_by_parts group true true (Some w) (Some v) (Some o) None = refl
same_by_parts group true true (Some w) (Some v) (Some o) (Some a) = fit_test (nat_le (v + o) 99) group w (record { voters = v; observers = o; nodes = v + o; agents = a })

module _ (fields : List (List ℕ)) (version group word number voters observers agents : List ℕ)
    (are : fields ≡ version ∷ group ∷ word ∷ number ∷ voters ∷ observers ∷ agents ∷ []) where
  by : head_in fields ≡ by_parts group (is_same version (codes "G1")) (is_group group) (who_in word number) (sizes_in voters observers agents)
  by =
      ap head_in are
      ∙ same_by_parts group (is_same version (codes "G1")) (is_group group) (who_in word number) (whole_in 1 99 voters) (whole_in 0 99 observers) (whole_in 1 64 agents)

  pub no_format : is_same version (codes "G1") ≡ false → head_in fields ≡ Err BadHead
  no_format is = by ∙ ap (λ b. by_parts group b (is_group group) (who_in word number) (sizes_in voters observers agents)) is

  module _ (format : is_same version (codes "G1") ≡ true) where
    by_name : head_in fields ≡ by_parts group true (is_group group) (who_in word number) (sizes_in voters observers agents)
    by_name = by ∙ ap (λ b. by_parts group b (is_group group) (who_in word number) (sizes_in voters observers agents)) format

    pub no_name : is_group group ≡ false → head_in fields ≡ Err BadHead
    no_name is = by_name ∙ ap (λ b. by_parts group true b (who_in word number) (sizes_in voters observers agents)) is

    module _ (name : is_group group ≡ true) where
      by_who : head_in fields ≡ of_who group (who_in word number) (sizes_in voters observers agents)
      by_who = by_name ∙ ap (λ b. by_parts group true b (who_in word number) (sizes_in voters observers agents)) name

      pub no_who : who_in word number ≡ None → head_in fields ≡ Err BadHead
      no_who is = by_who ∙ ap (λ o. of_who group o (sizes_in voters observers agents)) is

      module _ (w : Who) (who : who_in word number ≡ Some w) where
        by_sizes : head_in fields ≡ of_sizes group w (sizes_in voters observers agents)
        by_sizes = by_who ∙ ap (λ o. of_who group o (sizes_in voters observers agents)) who

        pub no_sizes : sizes_in voters observers agents ≡ None → head_in fields ≡ Err BadHead
        no_sizes is = by_sizes ∙ ap (of_sizes group w) is

        module _ (s : Sizes) (sizes : sizes_in voters observers agents ≡ Some s) where
          pub not_own : is_among w s.nodes s.agents ≡ false → head_in fields ≡ Err BadHead
          not_own is = by_sizes ∙ ap (of_sizes group w) sizes ∙ ap (λ b. cond b (Ok (head_of group w s)) (Err BadHead)) is

          pub head_there : is_among w s.nodes s.agents ≡ true → head_in fields ≡ Ok (record { group = group; who = w; voters = s.voters; observers = s.observers; agents = s.agents })
          head_there is = by_sizes ∙ ap (of_sizes group w) sizes ∙ ap (λ b. cond b (Ok (head_of group w s)) (Err BadHead)) is
