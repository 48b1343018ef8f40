pub mod Session
pub mod Held
pub mod SheetLaws
pub mod SessionLaws
pub mod HeldLaws
pub mod SessionFigures
