pub mod Names
pub mod Tokens
pub mod Faults
pub mod Machine
pub mod Building
pub mod Scanning
pub mod Reading
pub mod Rests
