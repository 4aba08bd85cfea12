pub mod Bodies
pub mod Functions
pub mod Reading
pub mod Sending
