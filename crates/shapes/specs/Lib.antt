pub mod Lists
pub mod Ranges
pub mod Blank
pub mod RangeLaws
