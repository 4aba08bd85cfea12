pub mod Forests
pub mod Final
pub mod Layers
pub mod Examples
