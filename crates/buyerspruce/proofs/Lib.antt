-- Laws that the proofs of this crate cite, and that its promises leave no choice.
pub mod Replying
pub mod Choosing
pub mod Unique
