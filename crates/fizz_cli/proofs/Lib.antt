pub mod CallsLemmas
pub mod RefusalsLemmas
pub mod StepsLemmas
pub mod Documents
pub mod Pages
mod ProgramsLemmas
mod SourcesLemmas
mod StillLemmas
mod RenderingLemmas
mod GeneratingLemmas
mod WordsLemmas
mod TreesLemmas
mod SendingLemmas
