mod NodesLemmas
mod PlacesLemmas
mod PartsLemmas
mod ShownLemmas
mod WeightsLemmas
