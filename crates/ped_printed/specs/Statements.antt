-- Statements as they are printed.
pub mod Printed
