pub mod Circle
