-- The group and who it is are those of the head line.
use Rattle.std.proofs.Common.{◌≡◌, MatchOption, sym, ap, ◌∙◌, subst}
use Rattle.log_text.specs.Heads.{who_of}
use Rattle.log_text.specs.LogText.{IsLogHead}
use Rattle.process_player.specs.Refusals.{IsNoJournal}
use Rattle.process_player.specs.Starts.{GoesOn}
use Rattle.process_player.specs.Inner.Groups.{group_said}
use Rattle.process_player.proofs.StoredLaws.{among_group}
use Rattle.process_player.proofs.beginning.process_with.Goals.{In-Ok}
use Rattle.process_player.proofs.beginning.process_with.Goals as goal

is_group : (c : In-Ok) → c.in-Ok.group ≡ group_said c.args.preamble.own.head c.args.preamble.sheet c.args.preamble.issuer
is_group c = c.in-Ok.ensures ∙ ap (λ h. group_said h c.args.preamble.sheet c.args.preamble.issuer) c.head-2.ensures

is_who : (c : In-Ok) → who_of c.who-who.result ≡ c.args.preamble.own.head.who
is_who c = c.who-who.ensures ∙ ap (λ h. h.who) c.head.ensures

pub group_of-requires : goal.group_of-requires
group_of-requires c = subst IsLogHead (sym c.head-2.ensures) c.requires.head

pub process_of-requires-clause-kept : goal.process_of-requires-clause-kept
process_of-requires-clause-kept c =
    ap (λ k. k.agents) c.kept_or-kept.ensures ∙ c.requires.kept ∙ sym (ap (λ x. x.agents) (is_group (goal.at.process_of-requires-clause-kept c).In-Ok))

pub process_of-requires-clause-who : goal.process_of-requires-clause-who
process_of-requires-clause-who c =
    let in_ok = (goal.at.process_of-requires-clause-who c).In-Ok in
    among_group c.args.preamble.own.head c.args.preamble.sheet c.args.preamble.issuer c.in-Ok.group (who_of c.who-who.result) c.requires.head (is_group in_ok) (is_who in_ok)

pub returns : goal.returns
returns c =
    let in_ok = (goal.at.returns c).In-Ok in
    let head = c.args.preamble.own.head.who in
    let said = group_said c.args.preamble.own.head c.args.preamble.sheet c.args.preamble.issuer in
    let process = c.process_of.result in
    subst (λ k. MatchOption process (IsNoJournal head k) (GoesOn said head k)) c.kept_or-kept.ensures
    (subst (λ w. MatchOption process (IsNoJournal w c.kept_or-kept.result) (GoesOn said w c.kept_or-kept.result)) (is_who in_ok)
    (subst (λ g. MatchOption process (IsNoJournal (who_of c.who-who.result) c.kept_or-kept.result) (GoesOn g (who_of c.who-who.result) c.kept_or-kept.result)) (is_group in_ok) c.process_of.ensures))
