pub mod Machine
pub mod Entry
pub mod Several
