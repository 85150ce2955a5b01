-- Why a world does what the processes of a group do, and why their files are the same.
pub mod CarriedBatches
pub mod PacketsOfGroup
pub mod FitExports
pub mod NeverFull
pub mod Stands
pub mod NodeSteps
pub mod NodeActs
pub mod OwnBatches
pub mod AgentActs
pub mod MatchedActs
pub mod ExportedAnswers
pub mod DoneByWorld
pub mod AgreedExports
-- worked examples: histories, and what is none
pub mod EachAct
pub mod WorkedHistory
pub mod WorkedGroup
pub mod WorkedGroupEvents
pub mod FalseHistories
pub mod FalseSteps
pub mod FalseBeginnings
pub mod RunTwice
