-- The demands, each sentence a theorem.
pub mod DemandOne
pub mod DemandTwo
pub mod WrittenRules
pub mod DemandThree
pub mod OneAnswer
pub mod StarredFigures
pub mod ShutOut
-- The words that they use.
pub mod PaintCalls
-- What they rest on.
pub mod KeepLaws
pub mod OnceLaws
