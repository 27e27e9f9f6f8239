pub mod Ready
pub mod ActedUpon
pub mod TakeLeaves
pub mod GiveLeaves
pub mod FillLeaves
pub mod CodeGives
pub mod HowFar
pub mod Fronts
