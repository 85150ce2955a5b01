-- Packets at work: the text of each form, and what it is read as.
use Rattle.std.specs.Prelude.{◌≡◌, ℕ, true, false, List, [], ◌∷◌, length, replicate, Option, Some, None, pos, codes, refl}
use Rattle.std.specs.Fmt.{digits}
use Rattle.metering_model.specs.declared.Version.TheVariants.{B1}
use Rattle.metering_model.specs.Batch.{Amends}
use Rattle.metering_model.specs.NumberText.{worth_of, decimals_of}
use Rattle.metering_model.specs.World.{Packet, CarriesBatch, Prepare, Promise, Accept, Accepted, Decided}
use Rattle.metering_model.specs.Transcript.{line}
use Rattle.metering_model.specs.Schedule.{lines_text}
use Rattle.packet_text.specs.PacketText.{GroupPacket, packet_text, packet_in, may_take_memory, most_line_bytes}

abbrev group : List ℕ
group = codes "prod-EU1"

abbrev read_as : Packet → Option GroupPacket
read_as p = Some (record { group = group; packet = p })

-- ---- a packet of each form

abbrev a_prepare : Packet
a_prepare = Prepare 0 1

a_prepare_text : packet_text group a_prepare ≡ line (codes "P1|prod-EU1|prepare|0|1")
unfolding digits
a_prepare_text = refl

a_prepare_read : packet_in (line (codes "P1|prod-EU1|prepare|0|1")) ≡ read_as a_prepare
a_prepare_read = refl

abbrev a_promise : Packet
a_promise = Promise 98 1199 990098 None

a_promise_text : packet_text group a_promise ≡ line (codes "P1|prod-EU1|promise|98|1199|990098|0")
unfolding digits
a_promise_text = refl

a_promise_read : packet_in (line (codes "P1|prod-EU1|promise|98|1199|990098|0")) ≡ read_as a_promise
a_promise_read = refl

abbrev a_promise_with_a_vote : Packet
a_promise_with_a_vote = Promise 2 7 11 (Some (record { ballot = 5; cut = 3 ∷ 0 ∷ 1000000 ∷ [] }))

a_promise_with_a_vote_text : packet_text group a_promise_with_a_vote ≡ line (codes "P1|prod-EU1|promise|2|7|11|5|3|0|1000000")
unfolding digits
a_promise_with_a_vote_text = refl

a_promise_with_a_vote_read : packet_in (line (codes "P1|prod-EU1|promise|2|7|11|5|3|0|1000000")) ≡ read_as a_promise_with_a_vote
a_promise_with_a_vote_read = refl

abbrev an_accept : Packet
an_accept = Accept 7 11 (3 ∷ 0 ∷ [])

an_accept_text : packet_text group an_accept ≡ line (codes "P1|prod-EU1|accept|7|11|3|0")
unfolding digits
an_accept_text = refl

an_accept_read : packet_in (line (codes "P1|prod-EU1|accept|7|11|3|0")) ≡ read_as an_accept
an_accept_read = refl

abbrev an_accepted : Packet
an_accepted = Accepted 0 7 11 (3 ∷ [])

an_accepted_text : packet_text group an_accepted ≡ line (codes "P1|prod-EU1|accepted|0|7|11|3")
unfolding digits
an_accepted_text = refl

an_accepted_read : packet_in (line (codes "P1|prod-EU1|accepted|0|7|11|3")) ≡ read_as an_accepted
an_accepted_read = refl

abbrev a_decided : Packet
a_decided = Decided 7 (3 ∷ 0 ∷ [])

a_decided_text : packet_text group a_decided ≡ line (codes "P1|prod-EU1|decided|7|3|0")
unfolding digits
a_decided_text = refl

a_decided_read : packet_in (line (codes "P1|prod-EU1|decided|7|3|0")) ≡ read_as a_decided
a_decided_read = refl

abbrev a_batch : Packet
a_batch = CarriesBatch (record { version = B1; agent = 1; seq = 2; records = Amends 1 0 (pos 1500000) ∷ [] })

a_batch_text : packet_text group a_batch ≡ lines_text (codes "P1|prod-EU1|batch|2" ∷ codes "B1|1|2|1" ∷ codes "X|1|0|1.5" ∷ [])
unfolding digits decimals_of
a_batch_text = refl

a_batch_read : packet_in (lines_text (codes "P1|prod-EU1|batch|2" ∷ codes "B1|1|2|1" ∷ codes "X|1|0|1.5" ∷ [])) ≡ read_as a_batch
unfolding worth_of
a_batch_read = refl

abbrev an_empty_batch : Packet
an_empty_batch = CarriesBatch (record { version = B1; agent = 64; seq = 1000000; records = [] })

an_empty_batch_text : packet_text group an_empty_batch ≡ lines_text (codes "P1|prod-EU1|batch|1" ∷ codes "B1|64|1000000|0" ∷ [])
unfolding digits
an_empty_batch_text = refl

an_empty_batch_read : packet_in (lines_text (codes "P1|prod-EU1|batch|1" ∷ codes "B1|64|1000000|0" ∷ [])) ≡ read_as an_empty_batch
an_empty_batch_read = refl

-- ---- the limits of a name and of a cut

shortest_name_read : packet_in (line (codes "P1|-|prepare|0|1")) ≡ Some (record { group = codes "-"; packet = a_prepare })
shortest_name_read = refl

longest_name_read : packet_in (line (codes "P1|abcdefghijklmnopqrstuvwxyzABCDEF|prepare|0|1")) ≡ Some (record { group = codes "abcdefghijklmnopqrstuvwxyzABCDEF"; packet = a_prepare })
longest_name_read = refl

other_bytes_read : packet_in (line (codes "P1|GHIJKLMNOPQRSTUVWXYZ0123456789-|prepare|0|1")) ≡ Some (record { group = codes "GHIJKLMNOPQRSTUVWXYZ0123456789-"; packet = a_prepare })
other_bytes_read = refl

a_cut_of_64_agents_read : packet_in (line (codes "P1|g|decided|0|0|0|0|0|0|0|0|0|0|0|0|0|0|0|0|0|0|0|0|0|0|0|0|0|0|0|0|0|0|0|0|0|0|0|0|0|0|0|0|0|0|0|0|0|0|0|0|0|0|0|0|0|0|0|0|0|0|0|0|0|0|0|0|0")) ≡ Some (record { group = codes "g"; packet = Decided 0 (replicate 64 0) })
a_cut_of_64_agents_read = refl

the_longest_line : length (packet_text (replicate 32 97) (Promise 98 1199 990098 (Some (record { ballot = 990098; cut = replicate 64 1000000 })))) ≡ most_line_bytes
unfolding digits
the_longest_line = refl

-- ---- memory

a_batch_may_take_memory : may_take_memory (line (codes "P1|g|batch|2")) ≡ true
a_batch_may_take_memory = refl

a_decided_may_take_memory : may_take_memory (line (codes "P1|g|decided|0|0")) ≡ true
a_decided_may_take_memory = refl

a_prepare_takes_none : may_take_memory (line (codes "P1|g|prepare|0|1")) ≡ false
a_prepare_takes_none = refl

another_word_takes_none : may_take_memory (line (codes "P1|g|Decided|0|0")) ≡ false
another_word_takes_none = refl

no_line_takes_none : may_take_memory (codes "P1|g|decided|0|0") ≡ false
no_line_takes_none = refl
