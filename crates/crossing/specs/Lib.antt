pub mod Outlines
pub mod Crossed
pub mod OutlineLaws
pub mod CrossedLaws
