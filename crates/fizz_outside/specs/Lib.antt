pub mod Faults
pub mod FileContents
pub mod Memory
pub mod Sinks
