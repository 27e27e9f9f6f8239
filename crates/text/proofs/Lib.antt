pub mod FirstOther
pub mod Owes
pub mod Chunks
pub mod FrontStep
pub mod Joined
