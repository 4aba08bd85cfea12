pub mod ShapesLemmas
pub mod PlacesLemmas
mod PrintingLemmas
mod WorksLemmas
