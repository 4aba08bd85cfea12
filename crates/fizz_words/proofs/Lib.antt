mod NumberLemmas
mod RowsLemmas
mod TakenLemmas
mod PureLemmas
mod MeantLemmas
