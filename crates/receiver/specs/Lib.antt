pub mod View
pub mod Internal
