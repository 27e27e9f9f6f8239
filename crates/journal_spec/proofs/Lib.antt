pub mod Record
pub mod CaseTests
pub mod Short
pub mod NoLoss
