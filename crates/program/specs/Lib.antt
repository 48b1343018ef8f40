pub mod Program
pub mod ProgramLaws
