pub mod Figures
pub mod FigureLaws
