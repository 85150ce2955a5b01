pub mod Days
pub mod Places
