-- What a reply stands for.
use Rattle.std.specs.Prelude.{Bool, true, false, ◌||◌}
use Rattle.metering_model.specs.World as model
use Rattle.group_events.specs.declared.replies.Reply.{Reply}
use Rattle.group_events.specs.declared.replies.Reply.TheVariants.{Journaled, Delivered, Started, Restarted, Exported, KeptText, Refused}

abbrev pub reply_of : Reply → model.Reply
reply_of (Journaled packet) = model.Journaled packet
reply_of (Delivered sent learned) = model.Delivered sent learned
reply_of (Started ballot packet) = model.Started ballot packet
reply_of Restarted = model.Restarted
reply_of (Exported snapshot) = model.Exported snapshot
reply_of (KeptText text) = model.KeptText text.items
reply_of (Refused refusal) = model.Refused refusal

-- whether the reply has a snapshot
abbrev pub is_exported : model.Reply → Bool
is_exported (model.Exported s) = true
is_exported _ = false

-- whether the reply has a text
abbrev pub is_kept_text : model.Reply → Bool
is_kept_text (model.KeptText text) = true
is_kept_text _ = false

-- whether a copy of the reply takes memory
abbrev pub grows : model.Reply → Bool
grows r = is_exported r || is_kept_text r

-- whether nothing was done
abbrev pub is_refused : model.Reply → Bool
is_refused (model.Refused refusal) = true
is_refused _ = false
