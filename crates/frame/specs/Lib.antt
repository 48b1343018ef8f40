pub mod Frames
pub mod Answers
pub mod Inside
pub mod FrameLaws
pub mod ReadLaws
pub mod AnswerLaws
pub mod FrameFigures
