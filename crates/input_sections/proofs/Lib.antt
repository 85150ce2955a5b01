pub mod CountedLines
pub mod LineLaws
pub mod NeverWants
pub mod ReadLaws
pub mod SectionLaws
pub mod ToldLaws
mod WorkedInputs
