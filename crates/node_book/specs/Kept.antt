-- What an entry, a receipt and a rendered file stand for.
use Rattle.std.specs.Prelude.{ℕ, List, Option, Some, None, Vec}
use Rattle.std.specs.declared.alloc.Global.{Global}
use Rattle.metering_model.specs.History.{Entry}
use Rattle.group_events.specs.Events.{event_of}
use Rattle.group_events.specs.Replies.{reply_of}
use Rattle.node_book.specs.declared.entries.Entry.{Entry as KeptEntry}
use Rattle.node_book.specs.declared.entries.Receipt.{Receipt}
use Rattle.node_book.specs.Books.{Told}

abbrev pub entry_of : KeptEntry → Entry
entry_of e = record { who = e.who; event = event_of e.event; reply = reply_of e.reply }

abbrev pub told_of : Receipt → Told
told_of r = record { index = r.index; reply = reply_of r.reply }

abbrev pub bytes_in : Option (Vec ℕ Global) → Option (List ℕ)
bytes_in None = None
bytes_in (Some v) = Some v.items
