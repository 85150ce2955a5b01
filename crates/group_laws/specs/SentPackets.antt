-- What a reply tells of the packet that was sent.
use Rattle.std.specs.Prelude.{◌≡◌, ℕ, [], ◌∷◌, ◌++◌, length, Option, Some, None}
use Rattle.metering_model.specs.World.{World, Packet, Reply, Journaled, Delivered, Started, Restarted, Exported, KeptText, Refused}

-- the number of the packet that a reply tells of
abbrev pub told_number : Reply → Option ℕ
told_number (Journaled packet) = Some packet
told_number (Delivered sent learned) = sent
told_number (Started ballot packet) = Some packet
told_number Restarted = None
told_number (Exported snapshot) = None
told_number (KeptText text) = None
told_number (Refused refusal) = None

-- One packet more was sent, which got the next number, where this is told; and none where none is told. The others stay.
abbrev pub SendsAsTold : World → World → Option ℕ → Type 0
SendsAsTold w v None = v.packets ≡ w.packets
SendsAsTold w v (Some k) = (k ≡ length w.packets) × ((p : Packet) × (v.packets ≡ w.packets ++ p ∷ []))
