-- What Search answers and writes, and what the walk asks and promises on the way.
pub mod Walk
pub mod Width
pub mod Search
