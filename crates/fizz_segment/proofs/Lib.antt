pub mod Kids
pub mod Extremes
pub mod Kinship
pub mod LinkLemmas
pub mod KidLaws
