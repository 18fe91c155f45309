-- Lists of acts: fitting, exchanging, renaming.
pub mod Changes
pub mod Conflicts
pub mod Exchanges
pub mod Fitting
pub mod Grids
pub mod Orders
pub mod Origins
pub mod Pieces
pub mod Renaming
pub mod Sets
pub mod Walks
