-- A history of processes whose sheet changes: each act is done under the sheet that its process has then.
use Rattle.std.specs.Prelude.{◌≡◌, ℕ, Bool, true, false, not, if◌then◌else◌, List, [], ◌∷◌, filter, All, ℤ, ◌≤ℤ◌}
use Rattle.metering_model.specs.Dates.{period_end}
use Rattle.metering_model.specs.Sheet.{Sheet}
use Rattle.metering_model.specs.declared.Refusal.TheVariants.{Unpriced}
use Rattle.metering_model.specs.World.{Snapshot}
use Rattle.sheet_laws.specs.Longer.{GoesOnFrom, NamesAllAlike, day_start}
use Rattle.sheet_laws.specs.Runs.{PricesAllOf}
use Rattle.process_laws.specs.LocalSteps.{Group, OfModel, Unfit, HasExported, RefusedFor, Words, Answer}
use Rattle.process_laws.specs.Histories.{Processes, Act, Acted, acted, MayAct}

-- An act, and the sheet that its process has then. A process has another sheet only from where it goes on (`NodeGoesOn`, `AgentGoesOn`), since it
-- reads its sheet where it begins. That makes no difference to what is said here, so each act names whichever sheet.
pub record SheetedAct : Type 0 where
  pub sheet : Sheet
  pub act : Act

abbrev pub group_under : Sheet → Group → Group
group_under sheet g = record g { sheet = sheet }

-- The group's own sheet has no part in these four.
abbrev pub sheeted_acted : Group → Processes → SheetedAct → Acted
sheeted_acted g s x = acted (group_under x.sheet g) s x.act

abbrev pub sheeted_answers : Group → Processes → List SheetedAct → List Answer
sheeted_answers g s [] = []
sheeted_answers g s (x ∷ acts) = (sheeted_acted g s x).answer ∷ sheeted_answers g (sheeted_acted g s x).after acts

abbrev pub sheeted_after : Group → Processes → List SheetedAct → Processes
sheeted_after g s [] = s
sheeted_after g s (x ∷ acts) = sheeted_after g (sheeted_acted g s x).after acts

-- Each act may be done where it stands, under the sheet that it names. All else is as in a history under one sheet.
abbrev pub IsSheetedHistory : Group → Processes → List SheetedAct → Type 0
IsSheetedHistory g s [] = Unit {0}
IsSheetedHistory g s (x ∷ acts) = MayAct (group_under x.sheet g) s x.act × IsSheetedHistory g (sheeted_acted g s x).after acts

-- ---- the last sheet

-- The last sheet has the older one's base month, and a price and a fit commitment for whatever reading the older one has them for. So each sheet is
-- taken over by itself.
pub record IsTakenOver (last old : Sheet) : Type 0 where
  pub base : last.base ≡ old.base
  pub prices : PricesAllOf old last

-- so it is with each sheet that an act names
abbrev pub AreTakenOver : Sheet → List SheetedAct → Type 0
AreTakenOver last acts = All (λ x. IsTakenOver last x.sheet) acts

-- ---- the same acts under the last sheet, without those that were refused since a sheet lacked a price

-- Refused since the process's sheet lacks a price or a commitment: a batch that an agent is offered; or an export, by a node that holds a batch which
-- was journaled under a sheet that has it. An export is unfit also where a cut goes back, which in a history never comes (the law `fit`).
abbrev pub is_for_want_of_price : Words → Bool
is_for_want_of_price (RefusedFor (OfModel Unpriced)) = true
is_for_want_of_price (RefusedFor Unfit) = true
is_for_want_of_price _ = false

abbrev pub lacks_price : Answer → Bool
lacks_price x = is_for_want_of_price x.words

abbrev pub answers_kept : List Answer → List Answer
answers_kept xs = filter (λ x. not (lacks_price x)) xs

-- the acts but for those that were answered so, where each answer is that to the act at its place
abbrev pub acts_kept : List SheetedAct → List Answer → List Act
acts_kept (a ∷ acts) (x ∷ xs) = if lacks_price x then acts_kept acts xs else a.act ∷ acts_kept acts xs
acts_kept (a ∷ acts) [] = []
acts_kept [] xs = []

abbrev pub words_under : Sheet → Words → Words
words_under sheet (HasExported s) = HasExported (record s { sheet = sheet })
words_under sheet words = words

-- An answer with that sheet in place of its own. Only that of an export has one.
abbrev pub answer_under : Sheet → Answer → Answer
answer_under sheet x = record x { words = words_under sheet x.words }

-- the same nodes, the same journal of each agent, and the same packets sent, in the same order
pub record AreAlike (s t : Processes) : Type 0 where
  pub nodes : t.nodes ≡ s.nodes
  pub journals : (agent : ℕ) → t.journals agent ≡ s.journals agent
  pub sent : t.sent ≡ s.sent

-- ---- closed months

-- The period of an export ends by a day up to which the last sheet charges what the export's own sheet does, and the two name the regions of its
-- batches alike. Of an export under the last sheet that is so by itself, with any day behind its period.
pub record EndsBeforeChange (last : Sheet) (s : Snapshot) : Type 0 where
  pub day : ℤ
  pub goes_on : GoesOnFrom day s.sheet last
  pub ends : period_end last.base s.period ≤ℤ day_start day
  pub named : NamesAllAlike s.sheet last s.batches
