pub mod Refusals
pub mod RefusalLaws
pub mod Lengths
pub mod LengthLaws
pub mod ThreeTests
pub mod ChainLaws
pub mod Outcomes
pub mod OutcomeLaws
