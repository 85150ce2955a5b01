-- What a text that was handed in stands for, and the faults that are told of one.
use Rattle.std.specs.Prelude.{◌≡◌, ℕ, Bool, true, false, List, [], ◌∷◌, Result, Ok, Err}
use Rattle.std.specs.Arc.{arc_value}
use Rattle.metering_model.specs.BatchReading.{fields_in, lines_in}
use Rattle.metering_model.specs.KeptText.{KeptHead, kept_head_in, kept_text, kept_in}
use Rattle.metering_model.specs.declared.KeptCode.{KeptCode}
use Rattle.metering_model.specs.declared.KeptCode.TheVariants.{Head as BadHead}
use Rattle.metering_model.specs.World as model
use Rattle.node_kept.specs.declared.faults.KeptFault.{KeptFault}
use Rattle.node_kept.specs.declared.faults.KeptFault.TheVariants.{Refused, OutOfMemory}
use Rattle.node_kept.specs.declared.offers.KeptOffer.{KeptOffer}
use Rattle.node_kept.specs.declared.offers.KeptOffer.TheVariants.{Good, Bad}

-- what was read by its text, and what could not be read by its fault
abbrev pub kept_offer : KeptOffer → model.KeptOffer
kept_offer (Good kept) = model.KeptGood (kept_text (arc_value kept))
kept_offer (Bad code line) = model.KeptBad (record { code = code; line = line })

-- whether the offer is of what was read, which a copy shares
abbrev pub is_read : model.KeptOffer → Bool
is_read (model.KeptGood text) = true
is_read (model.KeptBad fault) = false

-- The fault is the first that the text has. Want of memory says nothing of it.
abbrev pub IsFaultOf : List ℕ → KeptFault → Type 0
IsFaultOf text (Refused code line) = kept_in text ≡ Err (record { code = code; line = line })
IsFaultOf text OutOfMemory = Unit {0}

-- what the first of these lines is read as
abbrev pub first_head : List (List ℕ) → Result KeptHead KeptCode
first_head [] = Err BadHead
first_head (l ∷ ls) = kept_head_in (fields_in l)

-- The text begins with a head line.
abbrev pub BeginsWithHead : List ℕ → Type 0
BeginsWithHead text = (head : KeptHead) × (first_head (lines_in text).lines ≡ Ok head)
