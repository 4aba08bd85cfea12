pub mod ArgumentsLemmas
pub mod BodiesLemmas
pub mod IdsLemmas
pub mod ListLemmas
pub mod BodyMarkLemmas
pub mod HexadecimalLemmas
pub mod DecidedLemmas
