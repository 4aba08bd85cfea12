pub mod Queues
pub mod Flows
pub mod Printing
pub mod Flushing
pub mod Frames
pub mod Flushed
pub mod Telling
