pub mod Hex
pub mod Lines
pub mod Inside
pub mod PlaceLaws
pub mod HexLaws
pub mod LineLaws
pub mod WriteLaws
pub mod LineFigures
