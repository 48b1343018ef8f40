pub mod Scoring
pub mod Usual
pub mod ScoringLaws
pub mod CallLaws
pub mod AskLaws
