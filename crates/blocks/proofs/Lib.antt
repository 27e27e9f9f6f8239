pub mod BlockWalk
pub mod Outcomes
pub mod SeenByFacts
pub mod BlockPlaces
pub mod TextWalk
