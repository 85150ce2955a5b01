use Rattle.std.proofs.Common.{Some, ap, ◌∙◌}
use Rattle.std.specs.Option.{option_map}
use Rattle.packet_text.specs.PacketText.{sent_vote_in}
use Rattle.packet_text.proofs.Fields.{no_packet_so, vote_has_cut}
use Rattle.packet_text.proofs.reading.read_vote.Goals as goal

pub returns-in-Ok : goal.returns-in-Ok
returns-in-Ok c = ap sent_vote_in c.in-Some.ensures ∙ vote_has_cut c.in-Some.ballot.now c.in-Some.cut.now ∙ ap (option_map Some) c.in-Ok.ensures

pub returns-in-Err : goal.returns-in-Err
returns-in-Err c =
    no_packet_so c.in-Err.why _ _
    (λ none. ap sent_vote_in c.in-Some.ensures ∙ vote_has_cut c.in-Some.ballot.now c.in-Some.cut.now ∙ ap (option_map Some) none) c.in-Err.ensures
