-- What a reader must believe.
pub mod Layout
pub mod Table
pub mod Fills
-- What follows.
pub mod LayoutLaws
pub mod RangeLaws
pub mod LentLaws
pub mod FillLaws
pub mod ReadLaws
pub mod TestLaws
pub mod TableLaws
