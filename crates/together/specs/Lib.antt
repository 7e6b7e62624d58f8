pub mod House
pub mod Promise
pub mod Machine
pub mod Entry
pub mod Moves
pub mod Alone
pub mod Cases
