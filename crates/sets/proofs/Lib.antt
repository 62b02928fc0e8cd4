-- Laws that the proofs of this crate and of those above cite.
pub mod Bits
pub mod Words
pub mod Going
pub mod Finder
pub mod Judging
pub mod Tables
pub mod Verdicts
pub mod Checking
pub mod Ahead
pub mod Preferring
