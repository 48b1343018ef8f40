-- What a reader must believe, beside the rule of refinement in crate `traces`.
pub mod Tests
pub mod Answers
-- The forms in which it is proved.
pub mod Passes
-- What follows.
pub mod CourseLaws
pub mod CallLaws
pub mod TestLaws
pub mod AnswerLaws
