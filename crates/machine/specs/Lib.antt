pub mod Machine
pub mod Step
pub mod Hints
pub mod Maps
pub mod World
pub mod Fits
pub mod Theorems
pub mod Example
