-- Laws that the proofs of this crate cite.
pub mod Visiting
pub mod Walking
pub mod Starting
pub mod Searching
