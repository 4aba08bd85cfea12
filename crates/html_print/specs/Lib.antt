pub mod Sheets
pub mod Tags
pub mod Texts
