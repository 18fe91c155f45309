-- Programs as they are printed.
pub mod PrintedPrograms
