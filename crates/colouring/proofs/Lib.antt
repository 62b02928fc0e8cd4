-- Laws that the proofs of this crate and of those above cite.
pub mod Classes
pub mod Colours
pub mod Numbers
pub mod Laying
pub mod Colouring
pub mod Shown
