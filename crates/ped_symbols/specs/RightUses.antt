-- Programs that use each of their names as what it stands for.
pub mod RightArrays
pub mod RightLoops
pub mod RightPrograms
pub mod RightUses
