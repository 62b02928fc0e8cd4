-- Laws that the proofs of this crate and the search cite.
pub mod Dominating
pub mod Growing
pub mod Phases
