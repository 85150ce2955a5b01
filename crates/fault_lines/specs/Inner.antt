pub mod KeyKinds
pub mod LineFields
