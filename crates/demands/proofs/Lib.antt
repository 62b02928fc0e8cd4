-- The demands, for the promise of Search, and what no pins give; and the foreman's question, for that of Colour.
pub mod Replies
pub mod TurningDown
pub mod Finding
pub mod NoPins
pub mod Foreman
pub mod Starred
