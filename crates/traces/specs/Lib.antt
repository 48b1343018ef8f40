-- What a reader must believe.
pub mod Refinement
pub mod Scenes
-- The forms in which it is proved.
pub mod Traces
-- What follows.
pub mod RefinementLaws
pub mod PartLaws
pub mod DrawingLaws
pub mod TraceLaws
pub mod TraceSaysLaws
