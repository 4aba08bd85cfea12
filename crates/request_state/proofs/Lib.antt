mod FailingLemmas
mod ClosingLemmas
mod MakingLemmas
mod CommittingLemmas
