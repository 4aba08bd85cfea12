pub mod Counts
pub mod Chains
pub mod Edits
pub mod Kept
