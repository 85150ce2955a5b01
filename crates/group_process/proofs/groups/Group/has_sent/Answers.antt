use Rattle.group_process.proofs.groups.Group.has_sent.Goals as goal

pub returns-then-is_named : goal.returns-then-is_named
returns-then-is_named c = rw (← c.is_named.ensures, c.if-is_named.true) c.has_packet.ensures
