-- Laws of the question that the proofs of this crate and of those above cite.
pub mod Pins
pub mod Asking
pub mod Starting
