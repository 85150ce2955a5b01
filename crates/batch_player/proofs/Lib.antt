pub mod Amounts
pub mod AloneLaws
pub mod JournaledLaws
pub mod ChargesLaws
pub mod FrontLaws
pub mod RatedLaws
