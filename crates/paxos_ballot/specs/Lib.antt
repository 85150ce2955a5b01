pub mod Inner
pub mod Lending
pub mod Promises
pub mod Proposals
pub mod TallyAmong
