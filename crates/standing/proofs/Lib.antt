pub mod Unread
pub mod Settled
pub mod HowFar
pub mod StillToGive
pub mod Filling
pub mod Cuts
