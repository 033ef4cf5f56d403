pub mod Sink
pub mod Shelf
pub mod Memory
pub mod Edge
pub mod Piece
pub mod Number
pub mod Batch
