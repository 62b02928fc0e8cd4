-- The laws behind the run sheet's functions, and what they come to.
pub mod Putting
pub mod Printing
pub mod Example
