-- The replies that a call of `play` gave, whether it came to the end or stopped.
use Rattle.std.specs.Prelude.{List, map, Result, Ok, Err, Vec}
use Rattle.std.specs.declared.alloc.Global.{Global}
use Rattle.metering_model.specs.World as model
use Rattle.group_state.specs.Words.{Reply, reply_of}
use Rattle.group_core.specs.declared.playing.Stopped.{Stopped}

abbrev pub replies_in : Result (Vec Reply Global) Stopped → List model.Reply
replies_in (Ok replies) = map reply_of replies.items
replies_in (Err stopped) = map reply_of stopped.replies.items
