pub mod Fresh
pub mod Ring
pub mod Taken
pub mod AfterClockCall
pub mod Joined
pub mod Drafted
pub mod ClockAnswered
