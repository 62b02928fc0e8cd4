-- Laws that the proofs of this crate and of those above cite.
pub mod Pieces
pub mod Bytes
pub mod Decoding
pub mod Encoding
pub mod Promises
pub mod Refusing
pub mod Accepting
pub mod Returning
pub mod RoundTrip
