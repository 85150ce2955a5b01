use Rattle.metering_model.proofs.PartLaws.{agree_where_lacking_nothing, up_to_lacks_nothing}
use Rattle.metering_model.proofs.laws.parts_of_holdings_agree_where_they_lack_nothing.Goals as goal

pub returns-clause-agree : goal.returns-clause-agree
returns-clause-agree c = agree_where_lacking_nothing

pub returns-clause-lacks_nothing : goal.returns-clause-lacks_nothing
returns-clause-lacks_nothing c = λ h cut. up_to_lacks_nothing cut h
