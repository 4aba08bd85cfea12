pub mod Checks
pub mod Depths
pub mod Events
pub mod Firsts
pub mod SeenEvents
pub mod SeenNames
