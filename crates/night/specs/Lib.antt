-- The night file: its bytes, what Read says of a file and Write of a table, what they refuse, and that the file goes round.
pub mod Format
pub mod Versions
pub mod Reading
pub mod Writing
pub mod Answers
pub mod Promises
pub mod Refusing
pub mod Files
pub mod RoundTrip
