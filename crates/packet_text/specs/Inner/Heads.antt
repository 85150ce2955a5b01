-- The head of a packet's line: what is read of its fields, whatever stands below it.
use Rattle.std.specs.Prelude.{◌≡◌, ℕ, List, Option, Some, None, IsTrue}
use Rattle.metering_model.specs.World.{Packet}
use Rattle.packet_text.specs.PacketText.{GroupPacket, ◌>>=◌, is_group, is_stored_head, is_stored_word, word_packet_in, packet_of_fields}

-- what was read as a packet, as one of the group of that name
abbrev pub of_group : List ℕ → Option Packet → Option GroupPacket
of_group name o = o >>= λ p. Some (record { group = name; packet = p })

abbrev pub HasNoHead : List (List ℕ) → Type 0
HasNoHead fields = (below : List ℕ) → packet_of_fields fields below ≡ None

pub record HasHead (fields : List (List ℕ)) (name word : List ℕ) (numbers : List (List ℕ)) : Type 0 where
  pub is_name : IsTrue (is_group name)
  pub stored : is_stored_head fields ≡ is_stored_word word
  pub read : (below : List ℕ) → packet_of_fields fields below ≡ of_group name (word_packet_in word numbers below)
