pub mod Scheme
pub mod Clauses
pub mod Layers
pub mod Verdict
