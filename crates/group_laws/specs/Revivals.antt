-- What a revival answers to all but the text of what the node keeps now.
use Rattle.std.specs.Prelude.{Ok, Err}
use Rattle.metering_model.specs.declared.Refusal.{Refusal}
use Rattle.metering_model.specs.declared.Refusal.TheVariants.{BadKept, NotKept}
use Rattle.metering_model.specs.World.{KeptOffer, KeptGood, KeptBad}
use Rattle.metering_model.specs.KeptText.{kept_in}

-- A text that is of something kept is not of what this node keeps now; another is told its first fault.
abbrev pub refusal_of_other : KeptOffer → Refusal
refusal_of_other (KeptGood text) = elim (kept_in text) [ Ok k ↦ NotKept | Err fault ↦ BadKept fault ]
refusal_of_other (KeptBad fault) = BadKept fault
