use Rattle.std.proofs.Common.{◌≡◌, ◌++◌, List, ℕ, OnOk, sym, ap, subst, ◌∙◌}
use Rattle.input_check.proofs.SaidLaws.{in_two_parts, on_ok, rated_well}
use Rattle.input_check.proofs.WarnedLaws.{rating_warned}
use Rattle.input_check.proofs.ratings.check_given.Goals as goal

pub returns : goal.returns
returns c =
    let given = c.args.given.now in
    let warned = c.args.warned.now.items in
    let said = sym (rated_well c.args.text.now given.sheet given.issuer given.batch_from c.requires.within c.requires.taken) in
    let there = rating_warned c.args.text.now given.sheet given.issuer given.batch_from c.requires.within c.requires.taken in
    let here = rw c.line_count.ensures at (c.check_batch.ensures.said given.issuer) in
    let ahead = rw c.line_count.ensures at (c.check_batch.ensures.ahead given.issuer) in
    record {
      said =
          subst (λ (t : List ℕ). OnOk c.check_batch.result (c.check_batch.new.told.items ≡ c.args.told.now.items ++ t)) said
          (rw c.split_at.ensures.front at (rw c.split_at.ensures.back at here));
      warned =
          on_ok c.check_batch.result
          (λ put. in_two_parts warned _ _ _ _ c.in-Ok.ensures put ∙ ap (λ t. warned ++ t) (sym there))
          (rw c.split_at.ensures.front at (rw c.split_at.ensures.back at ahead));
    }
