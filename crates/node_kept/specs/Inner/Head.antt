-- The head line of a kept text.
use Rattle.metering_model.specs.KeptText.{KeptHead}
use Rattle.node_kept.specs.declared.head.Head.{Head}

abbrev pub head_of : Head → KeptHead
head_of h = record { agents = h.agents; round = h.round; learned = h.learned; promised = h.promised; ballot = h.ballot; batches = h.batches }
