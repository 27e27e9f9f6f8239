pub mod Limits
pub mod Header
pub mod Redundancy
pub mod Reading
pub mod Encoding
pub mod Internal
