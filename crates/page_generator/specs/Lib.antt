pub mod Draws
pub mod Pages
pub mod Parts
