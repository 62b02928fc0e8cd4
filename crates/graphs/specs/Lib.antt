-- Graph theory, as document 01 and demand 2 speak of it: lists of jobs, cliques, the first of the largest; and the paper's bounds and walk over lists.
pub mod Jobs
pub mod Clique
pub mod First
pub mod Pins
pub mod Filter
pub mod Colouring
pub mod Matching
pub mod Dominance
pub mod Walk
