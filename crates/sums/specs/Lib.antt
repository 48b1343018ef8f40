-- What a reader must believe.
pub mod Sums
-- What follows.
pub mod SumLaws
