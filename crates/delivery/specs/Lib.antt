pub mod Numbers
pub mod Record
pub mod Sending
pub mod Claim
pub mod Run
pub mod Course
pub mod Internal
