-- Why a host reads an answer as it is meant, and why lines come to a history.
pub mod FirstLines
pub mod ReadAnswers
pub mod FirstAnswers
pub mod Logs
pub mod Effects
pub mod Stands
pub mod Answered
pub mod AskedNodes
pub mod AskedAgents
pub mod GoneOn
pub mod History
pub mod Files
-- worked examples: a history in lines, and what is none
pub mod WorkedGroup
pub mod WorkedLines
pub mod FalseLines
pub mod FalseLogs
