pub mod JsonValues
pub mod Settlements
pub mod Scripts
pub mod Index
