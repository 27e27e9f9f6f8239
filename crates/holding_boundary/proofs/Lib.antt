pub mod NumberTells
pub mod KnownHolder
