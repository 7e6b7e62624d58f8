pub mod Order
pub mod Quorum
pub mod Turn
pub mod Calm
pub mod Near
pub mod Theorems
