-- Sets and rows as wide as the night.
pub mod Rows
pub mod Word
pub mod Sizes
