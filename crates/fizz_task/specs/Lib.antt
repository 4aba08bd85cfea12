pub mod Board
pub mod Calls
pub mod Stored
pub mod Answers
pub mod Indexed
