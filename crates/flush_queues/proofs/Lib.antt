mod OutputLemmas
mod KidsLemmas
pub mod QueuesLemmas
mod PrintingLemmas
mod UnitLemmas
