pub mod Headers
pub mod Internal
