pub mod DrawsLemmas
pub mod GroupsLemmas
pub mod LeavesLemmas
