pub mod Lengths
pub mod Seen
pub mod Steps
