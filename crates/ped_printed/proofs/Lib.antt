pub mod StatementLaws
pub mod ProgramLaws
