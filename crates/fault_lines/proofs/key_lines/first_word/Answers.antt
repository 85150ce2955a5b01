use Rattle.std.proofs.Common.{not, ap, ◌∙◌}
use Rattle.fault_lines.specs.UnknownKeys.{is_of_key, up_to_first}
use Rattle.fault_lines.proofs.KeyWalks.{up_to_place}
use Rattle.fault_lines.proofs.key_lines.first_word.Goals as goal

pub returns : goal.returns
returns c =
    up_to_place (λ b. not (is_of_key b)) c.behind_those-behind.result.now c.count_in_front.result c.count_in_front.ensures.first_other
    ∙ ap (up_to_first (λ b. not (is_of_key b))) c.behind_those-behind.ensures
