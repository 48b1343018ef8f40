-- What a reader must believe.
pub mod Paint
-- What follows.
pub mod PaintLaws
