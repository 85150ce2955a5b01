-- What begins with its head line is a log of that head.
use Rattle.std.proofs.Common.{Ok, sym, ap, ◌∙◌}
use Rattle.process_player.proofs.StoredLaws.{same_head}
use Rattle.process_player.proofs.stored.kept_of.Goals as goal

pub returns-in-Ok-clause-read : goal.returns-in-Ok-clause-read
returns-in-Ok-clause-read c =
    let log = c.in-Ok.log in
    let own = sym c.in-Ok-true.ensures ∙ c.in-Ok-true.field-0-test in
    c.in-Ok.ensures.read
    ∙ ap (λ h. Ok (record { head = h; kept = log.kept })) (same_head c.args.head.now c.args.text.now log c.requires c.in-Ok.ensures.read own)
    ∙ ap (λ k. Ok (record { head = c.args.head.now; kept = k })) (sym c.into_kept.ensures)
