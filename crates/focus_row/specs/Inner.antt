pub mod Beginnings
pub mod Left
pub mod Near
pub mod Places
pub mod NewValues
