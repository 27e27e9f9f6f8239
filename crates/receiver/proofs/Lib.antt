pub mod ViewSaysAll
pub mod SignedDistance
pub mod Steps
