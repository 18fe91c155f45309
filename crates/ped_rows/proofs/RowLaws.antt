-- Proven dependences: their references, the accesses of these, and that they occur.
pub mod FirmRows
pub mod ReferenceAccesses
pub mod ProvenRows
