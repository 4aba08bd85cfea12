pub mod Ascii
pub mod Hexadecimal
pub mod Text
