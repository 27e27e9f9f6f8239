pub mod RecordsLeft
pub mod RecordHolds
pub mod PacketRecords
