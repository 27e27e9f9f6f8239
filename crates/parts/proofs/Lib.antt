pub mod Spans
pub mod BytesTellRecords
pub mod Laws
pub mod Sound
pub mod Zeros
