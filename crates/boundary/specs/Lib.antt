pub mod Answers
pub mod Packets
pub mod Receiving
pub mod Internal
