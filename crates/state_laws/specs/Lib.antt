pub mod Tasks
pub mod Claims
pub mod Segments
pub mod Counts
pub mod Waits
pub mod Numbers
pub mod Shell
