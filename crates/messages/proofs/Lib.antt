pub mod Decoding
pub mod Encoding
pub mod RoundTrip
pub mod OneToOne
pub mod Counting
pub mod Sent
