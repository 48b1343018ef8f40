-- What a reader must believe.
pub mod Brushes
-- What follows.
pub mod BrushLaws
