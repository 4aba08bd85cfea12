pub mod Works
pub mod Transcripts
