pub mod Spelling
pub mod Printing
pub mod Seen
pub mod Rows
pub mod Sound
pub mod Aside
pub mod Printed
