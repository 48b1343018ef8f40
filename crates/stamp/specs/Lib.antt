-- Eight rows of eight pixels as a number.
pub mod Stamp
pub mod Lanes
pub mod LanesLaws
pub mod StampLaws
pub mod EdgeLaws
pub mod ColumnLaws
pub mod Digits
pub mod DigitLaws
pub mod WindowLaws
pub mod RowLaws
pub mod CutLaws
