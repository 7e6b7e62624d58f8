pub mod Letter
pub mod Kind
pub mod Message
