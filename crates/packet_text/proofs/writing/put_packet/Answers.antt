-- What was appended of a packet is cut off again.
use Rattle.std.proofs.Common.{◌≡◌, length, ◌∙◌, arith}
use Rattle.packet_text.proofs.Pieces.{cut_back}
use Rattle.packet_text.proofs.writing.put_packet.Goals as goal

pub returns-in-Ok : goal.returns-in-Ok
returns-in-Ok c = record { put = c.in-Ok.ensures; kept = tt }

pub returns-in-Err : goal.returns-in-Err
returns-in-Err c =
    let old = c.args.text.now in
    let size : c.len-before.result ≡ length old.items = omega (arith, c.len-before.ensures, old.ok.0) in
    record { put = tt; kept = c.truncate.ensures.items ∙ cut_back old.items _ c.len-before.result size c.in-Err.ensures }
