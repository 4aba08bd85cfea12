mod RunLemmas
mod WorkLemmas
