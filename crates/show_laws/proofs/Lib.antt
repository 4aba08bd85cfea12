pub mod ShowsLemmas
