-- All bytes are ASCII, so those from a place on are.
use Rattle.std.proofs.Common.{drop}
use Rattle.std.proofs.lemmas.Str.{IsUtf8-from_ascii, IsAscii-take, IsAscii-drop}
use Rattle.fx_money.proofs.writing.Text.as_str.Goals as goal

pub from_utf8_unchecked-requires : goal.from_utf8_unchecked-requires
from_utf8_unchecked-requires c =
    let fields = c.self.inside in
    IsUtf8-from_ascii _ (IsAscii-take (drop fields.start fields.bytes) _ (IsAscii-drop fields.bytes fields.start c.self.invariant.1))
