pub mod Header
pub mod Power
pub mod Election
pub mod Proposal
pub mod Apply
