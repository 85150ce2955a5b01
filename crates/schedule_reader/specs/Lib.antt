pub mod Schedules
pub mod Forms
pub mod Events
pub mod Inner
