mod WorksLemmas
mod TranscriptsLemmas
