pub mod Accepted
pub mod Read
