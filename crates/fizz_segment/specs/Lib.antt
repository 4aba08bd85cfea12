pub mod Tree
pub mod Calls
pub mod Views
pub mod Nearest
pub mod Linked
