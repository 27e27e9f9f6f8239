pub mod State
pub mod Answers
pub mod Opening
pub mod Rule
pub mod Step
pub mod Record
pub mod Claim
pub mod Internal
