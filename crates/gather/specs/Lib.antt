-- What a reader must believe.
pub mod Gathered
-- What the loops and their laws say.
pub mod RunSums
pub mod Paired
pub mod StampSums
pub mod RunSumLaws
pub mod StampSumLaws
pub mod CountLaws
