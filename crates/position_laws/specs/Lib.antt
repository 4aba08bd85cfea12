pub mod Later
pub mod Paths
pub mod Owners
pub mod Gaps
pub mod Words
pub mod Formed
