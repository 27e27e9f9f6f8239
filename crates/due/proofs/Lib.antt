pub mod Giving
pub mod Arising
