-- What a reader must believe.
pub mod Places
-- What follows.
pub mod PlaceLaws
