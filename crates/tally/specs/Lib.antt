-- What a reader must believe.
pub mod Tally
pub mod Rows
-- What follows.
pub mod TallyLaws
pub mod RowTotals
