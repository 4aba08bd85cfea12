pub mod Plans
pub mod Pieces
pub mod Places
pub mod Printing
pub mod Shapes
