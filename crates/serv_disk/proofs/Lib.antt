pub mod DiskLemmas
pub mod Moments
pub mod NotedLemmas
pub mod Pieces
