-- The lab's three demands, each as a type that its proof has; what no pins give; what the foreman is told; and document 01's starred items.
pub mod Demand1
pub mod Demand2
pub mod Demand3
pub mod NoPins
pub mod Foreman
pub mod Starred
