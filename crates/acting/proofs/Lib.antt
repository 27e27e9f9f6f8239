pub mod ByPart
