pub mod Majority
pub mod Progress
pub mod Votes
pub mod Cases
