-- What is said of an old sheet and a new one: of which months the files stay, and which regions are named otherwise.
use Rattle.std.specs.Prelude.{◌≡◌, ◌≢◌, ⊤, ℕ, Bool, true, false, ◌++◌, List, ◌∷◌, All, flat_map, IsTrue, Option, Some, None, IfSome, Result, Ok, ℤ, ◌<ℤ◌, ◌≤ℤ◌, codes}
use Rattle.std.specs.List.{Contains}
use Rattle.metering_model.specs.Batch.{is_empty}
use Rattle.metering_model.specs.BatchReading.{is_same}
use Rattle.metering_model.specs.Dates.{IsDayText}
use Rattle.metering_model.specs.FirstFailure.{◌>>=◌, holds_or}
use Rattle.metering_model.specs.PriceInForce.{commitment_with}
use Rattle.metering_model.specs.Sheet.{Commitment, Sheet}
use Rattle.metering_model.specs.SheetRules.{are_apart}
use Rattle.metering_model.specs.Transcript.{line}
use Rattle.sheet_laws.specs.Longer.{GoesOnFrom, NamesAlike}
use Rattle.sheet_changes.specs.FieldChanges.{ListsFields}
use Rattle.sheet_changes.specs.Regions.{unlike_regions}
use Rattle.input_sections.specs.declared.faults.ScheduleCode.TheVariants as code
use Rattle.input_sections.specs.declared.faults.ScheduleFault.{ScheduleFault}
use Rattle.input_sections.specs.declared.faults.ScheduleFault.TheVariants.{Refused}
use Rattle.input_sections.specs.Sections.{left, sheet_section, whole_of}

-- from which days the new sheet goes on: from each, from those up to one, or from none
pub data Likeness : Type 0 where
  Alike : Likeness
  AlikeBefore : (day : ℤ) → Likeness
  UnlikeBase : Likeness
  UnlikeCommitment : (id : List ℕ) → Likeness

-- The commitments of the old sheet that stand before this one are the same in the new, and this one is not.
pub record IsFirstUnlike (old new : Sheet) (id : List ℕ) : Type 0 where
  pub before : List Commitment
  pub commitment : Commitment
  pub after : List Commitment
  pub placed : old.commitments ≡ before ++ commitment ∷ after
  pub same : All (λ c. commitment_with new c.id ≡ commitment_with old c.id) before
  pub named : commitment.id ≡ id
  pub unlike : commitment_with new id ≢ commitment_with old id

-- A day up to which it goes on is the last such day.
abbrev pub IsLikeness : Sheet → Sheet → Likeness → Type 0
IsLikeness old new Alike = (day : ℤ) → GoesOnFrom day old new
IsLikeness old new (AlikeBefore day) = GoesOnFrom day old new × ((later : ℤ) → day <ℤ later → ¬ GoesOnFrom later old new)
IsLikeness old new UnlikeBase = new.base ≢ old.base
IsLikeness old new (UnlikeCommitment id) = (new.base ≡ old.base) × IsFirstUnlike old new id

-- the likeness alone says that the new sheet goes on from the day
abbrev pub GoesOnBy : Likeness → ℤ → Type 0
GoesOnBy Alike day = ⊤
GoesOnBy (AlikeBefore last) day = day ≤ℤ last
GoesOnBy UnlikeBase day = ⊥
GoesOnBy (UnlikeCommitment id) day = ⊥

-- what is said of it, with the text of the day
abbrev pub IsLikenessText : Likeness → List ℕ → Type 0
IsLikenessText Alike text = text ≡ codes "alike"
IsLikenessText (AlikeBefore day) text = (date : List ℕ) × IsDayText date day × (text ≡ codes "alike before " ++ date)
IsLikenessText UnlikeBase text = text ≡ codes "unlike base"
IsLikenessText (UnlikeCommitment id) text = text ≡ codes "unlike commitment " ++ id

-- just the regions that the two do not name alike, each once
pub record AreUnlikeRegions (old new : Sheet) (ids : List (List ℕ)) : Type 0 where
  pub unlike : All (λ id. ¬ NamesAlike old new id) ids
  pub all : (id : List ℕ) → ¬ NamesAlike old new id → Contains ids id
  pub once : IsTrue (are_apart is_same ids)

-- a line for each region
abbrev pub region_lines : List (List ℕ) → List ℕ
region_lines ids = flat_map (λ id. line (codes "region " ++ id)) ids

-- A line for how alike the two are, and one for each region that they name otherwise: of the old sheet in its order, then those
-- that the new one alone names.
pub record SaysChanges (old new : Sheet) (text : List ℕ) : Type 0 where
  pub likeness : Likeness
  pub is_so : IsLikeness old new likeness
  pub first : List ℕ
  pub is_first : IsLikenessText likeness first
  pub regions : List (List ℕ)
  pub are_unlike : AreUnlikeRegions old new regions
  pub in_order : regions ≡ unlike_regions old new
  pub joined : text ≡ line first ++ region_lines regions

-- what a run is asked for: that the files of months that end before a day stay, whatever their regions
abbrev pub StaysBefore : Option ℤ → Sheet → Sheet → Type 0
StaysBefore None old new = ⊤
StaysBefore (Some day) old new = GoesOnFrom day old new × ((id : List ℕ) → NamesAlike old new id)

-- The sections of an old sheet and of a new one, and nothing behind them; or the first fault by line.
unfoldable pub two_sheets_in : List ℕ → Result (Sheet × Sheet) ScheduleFault
two_sheets_in text = do
  u ← whole_of text
  old ← sheet_section u
  new ← sheet_section old.1
  _ ← holds_or (is_empty (left new.1)) (Refused code.Sheet new.1.line)
  Ok (old.0, new.0)

-- what is said, and behind it all that differs, where that is asked for
abbrev pub SaysAll : Bool → Sheet → Sheet → List ℕ → Type 0
SaysAll false old new text = SaysChanges old new text
SaysAll true old new text = (said fields : List ℕ) × SaysChanges old new said × ListsFields old new fields × (text ≡ said ++ fields)

-- The text is what is said of the two sheets of an input, which is all that a reader gives where its bytes are known.
pub record IsSaidOf (known : Option (List ℕ)) (all : Bool) (old new : Sheet) (text : List ℕ) : Type 0 where
  pub input : List ℕ
  pub is_input : IfSome known (λ bytes. input ≡ bytes)
  pub are_sheets : two_sheets_in input ≡ Ok (old, new)
  pub is_said : SaysAll all old new text
