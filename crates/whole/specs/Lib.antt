pub mod Whole
pub mod Cut
pub mod WholeLaws
pub mod WholeFigures
