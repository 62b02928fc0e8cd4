-- Laws that the proofs of this crate and of those above cite.
pub mod Sizes
pub mod Onward
pub mod Going
pub mod Rows
pub mod Packing
