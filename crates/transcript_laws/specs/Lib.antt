pub mod Csv
pub mod Shown
pub mod FirstFiles
