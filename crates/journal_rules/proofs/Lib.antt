pub mod OneMore
pub mod LeftLaws
pub mod BrokenLaws
pub mod RuleLaws
pub mod AskedLaws
