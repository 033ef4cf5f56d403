pub mod Lookahead
pub mod Search
pub mod Relaxations
pub mod Recall
