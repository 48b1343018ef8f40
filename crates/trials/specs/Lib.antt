-- The forms in which a trial is proved.
pub mod Courses
-- What follows.
pub mod CopyLaws
pub mod RisingLaws
pub mod SumLaws
pub mod StepLaws
