use Rattle.std.proofs.Common.{◌≡◌, Option, Some, None, ap, subst, sym, ◌∙◌}
use Rattle.std.specs.Option.{option_map}
use Rattle.metering_model.specs.Ballot.{Acceptor, Vote}
use Rattle.metering_model.specs.BatchReading.{fields_in}
use Rattle.metering_model.specs.KeptText.{KeptAmong}
use Rattle.log_text.specs.LogText.{SetsBallots}
use Rattle.log_text.specs.Inner.Reading.{Adds, IsPromise, IsVoteAmong, gone_on, vote_of_fields}
use Rattle.log_text.proofs.ReadSections.{unread_so}
use Rattle.log_text.proofs.increment_lines.add_ballots_of.Goals as goal

pub returns-in_default : goal.returns-in_default
returns-in_default c = ap (gone_on c.args.parts.now) (c.in_default.ensures c.args.parts.now.agents)

pub add_ballots-requires-clause-limits : goal.add_ballots-requires-clause-limits
add_ballots-requires-clause-limits c =
    let own = c.agents.ensures.value ∙ ap (λ (k : KeptAmong). k.agents) c.parts.view_is in
    let is = sym c.of.ensures in (
      subst IsPromise (ap (λ (a : Acceptor). a.promised) is) c.in-Some.ensures.is_promise,
      subst (IsVoteAmong c.args.parts.now.agents) (ap (λ (a : Acceptor). a.vote) is) (subst (λ n. IsVoteAmong n c.in-Ok.vote) own c.in-Ok.ensures.1),
    )

pub returns-in-Ok : goal.returns-in-Ok
returns-in-Ok c =
    let k = c.args.parts.now in
    let numbers = c.in-Some.numbers in
    let own = c.agents.ensures.value ∙ ap (λ (x : KeptAmong). x.agents) c.parts.view_is in
    let vote = subst (λ n. vote_of_fields n (fields_in numbers.vote.now) ≡ Some c.in-Ok.vote) own c.in-Ok.ensures.0 in
    let read =
    c.in-Some.ensures.read k.agents
    ∙ ap (option_map (λ (v : Option Vote). SetsBallots numbers.period (record { promised = numbers.promised; vote = v }))) vote
    ∙ ap (λ (a : Acceptor). Some (SetsBallots numbers.period a)) (sym c.of.ensures) in
    subst (Adds c.add_ballots.result k c.add_ballots.new.parts) (sym read) c.add_ballots.ensures

pub returns-in-Err : goal.returns-in-Err
returns-in-Err c =
    let k = c.args.parts.now in
    let numbers = c.in-Some.numbers in
    let own = c.agents.ensures.value ∙ ap (λ (x : KeptAmong). x.agents) c.parts.view_is in
    unread_so c.in-Err.why _ _
    (λ none.
    ap (gone_on k) (c.in-Some.ensures.read k.agents
    ∙ ap (option_map (λ (v : Option Vote). SetsBallots numbers.period (record { promised = numbers.promised; vote = v }))) (subst (λ n. vote_of_fields n (fields_in numbers.vote.now) ≡ None) own none))) c.in-Err.ensures
