pub mod HoldingTests
pub mod Refusals
pub mod Turns
pub mod Recorded
pub mod TextHanded
pub mod PlainStep
pub mod Edges
