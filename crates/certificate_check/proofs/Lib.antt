pub mod Scheme
pub mod Layers
pub mod InRange
pub mod Verdicts
pub mod Progress
pub mod Slices
pub mod Sound
pub mod ByLayer
