-- Lines as they are printed.
pub mod Cut
pub mod Fitting
pub mod Parts
pub mod Printed
