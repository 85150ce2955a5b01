use Rattle.std.proofs.Common.{ap, ◌∙◌}
use Rattle.metering_model.specs.BatchReading.{fields_in}
use Rattle.packet_text.specs.PacketText.{◌>>=◌, sent_cut_in}
use Rattle.packet_text.specs.Inner.Numbers.{Numbers}
use Rattle.packet_text.proofs.Fields.{no_packet_so}
use Rattle.packet_text.proofs.NumberSteps.{accept_by, with_cut}
use Rattle.packet_text.proofs.reading.read_accept.Goals as goal

pub returns-in_default : goal.returns-in_default
returns-in_default c = accept_by (fields_in c.args.numbers.now) ∙ ap (λ o. o >>= λ (x : Numbers). with_cut (sent_cut_in x.rest) x) c.in_default.ensures

pub returns-in-Ok : goal.returns-in-Ok
returns-in-Ok c =
    let found : Numbers = record { period = c.in-Some.numbered.period; ballot = c.in-Some.numbered.ballot; rest = fields_in c.in-Some.numbered.rest.now } in
    accept_by (fields_in c.args.numbers.now) ∙ ap (λ o. o >>= λ (x : Numbers). with_cut (sent_cut_in x.rest) x) c.in-Some.ensures ∙ ap (λ o. with_cut o found) c.in-Ok.ensures

pub returns-in-Err : goal.returns-in-Err
returns-in-Err c =
    let found : Numbers = record { period = c.in-Some.numbered.period; ballot = c.in-Some.numbered.ballot; rest = fields_in c.in-Some.numbered.rest.now } in
    no_packet_so c.in-Err.why _ _
    (λ none. accept_by (fields_in c.args.numbers.now) ∙ ap (λ o. o >>= λ (x : Numbers). with_cut (sent_cut_in x.rest) x) c.in-Some.ensures ∙ ap (λ o. with_cut o found) none)
    c.in-Err.ensures
