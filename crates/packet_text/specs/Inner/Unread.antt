-- Why no packet is read.
use Rattle.packet_text.specs.declared.reading.Unread.{Unread}
use Rattle.packet_text.specs.declared.reading.Unread.TheVariants.{NoPacket, NoMemory}

-- what is said where the text is no packet's; want of memory says nothing
abbrev pub IfNoPacket : Unread → Type 0 → Type 0
IfNoPacket NoPacket P = P
IfNoPacket NoMemory P = Unit {0}

-- what is said where memory is wanting
abbrev pub IfNoMemory : Unread → Type 0 → Type 0
IfNoMemory NoPacket P = Unit {0}
IfNoMemory NoMemory P = P
