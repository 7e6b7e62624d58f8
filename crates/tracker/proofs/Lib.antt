pub mod Quorums
pub mod Rows
pub mod Ballots
