use Rattle.std.proofs.Common.{ap, ◌∙◌}
use Rattle.metering_model.specs.BatchReading.{fields_in}
use Rattle.packet_text.specs.PacketText.{◌>>=◌, sent_cut_in}
use Rattle.packet_text.specs.Inner.Numbers.{Sent}
use Rattle.packet_text.proofs.Fields.{no_packet_so}
use Rattle.packet_text.proofs.NumberSteps.{accepted_sent, accepted_with}
use Rattle.packet_text.proofs.reading.read_accepted.Goals as goal

pub returns-in_default : goal.returns-in_default
returns-in_default c = accepted_sent (fields_in c.args.numbers.now) ∙ ap (λ o. o >>= λ (s : Sent). accepted_with (sent_cut_in s.numbers.rest) s) c.in_default.ensures

pub returns-in-Ok : goal.returns-in-Ok
returns-in-Ok c =
    let found : Sent = record { from = c.in-Some.sent.from; numbers = record { period = c.in-Some.sent.numbered.period; ballot = c.in-Some.sent.numbered.ballot; rest = fields_in c.in-Some.sent.numbered.rest.now } } in
    accepted_sent (fields_in c.args.numbers.now) ∙ ap (λ o. o >>= λ (s : Sent). accepted_with (sent_cut_in s.numbers.rest) s) c.in-Some.ensures ∙ ap (λ o. accepted_with o found) c.in-Ok.ensures

pub returns-in-Err : goal.returns-in-Err
returns-in-Err c =
    let found : Sent = record { from = c.in-Some.sent.from; numbers = record { period = c.in-Some.sent.numbered.period; ballot = c.in-Some.sent.numbered.ballot; rest = fields_in c.in-Some.sent.numbered.rest.now } } in
    no_packet_so c.in-Err.why _ _
    (λ none. accepted_sent (fields_in c.args.numbers.now) ∙ ap (λ o. o >>= λ (s : Sent). accepted_with (sent_cut_in s.numbers.rest) s) c.in-Some.ensures ∙ ap (λ o. accepted_with o found) none)
    c.in-Err.ensures
