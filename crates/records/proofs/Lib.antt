pub mod LentBuffer
pub mod Turns
pub mod SingleBytes
pub mod Pieces
pub mod TurnsInOrder
pub mod WholePieces
pub mod WholeTimes
