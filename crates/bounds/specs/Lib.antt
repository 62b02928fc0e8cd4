-- The steps on the way to the bounds; the bounds themselves are defined in the crate graphs.
pub mod Known
pub mod Growing
