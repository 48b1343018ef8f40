pub mod Disc
pub mod Steps
pub mod DiscLaws
pub mod StepLaws
