-- What a reader must believe.
pub mod Pixels
pub mod Painting
pub mod Strokes
-- What follows.
pub mod PixelLaws
pub mod PaintingLaws
pub mod Places
