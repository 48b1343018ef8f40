-- Document 01, "Which pixels a shape covers": triangles and quads, over any number of corners.
pub mod Polygon
-- What the steps of fill_quad promise.
pub mod Steps
pub mod OneRow
-- Proved of them.
pub mod Sides
pub mod Box
pub mod StepLaws
pub mod EdgeLaws
pub mod RowSteps
pub mod Around
pub mod FillLaws
pub mod PolygonLaws
pub mod OneRowLaws
