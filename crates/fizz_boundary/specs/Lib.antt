pub mod Bounds
pub mod Calls
pub mod Views
