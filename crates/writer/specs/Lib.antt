pub mod Draft
pub mod Internal
