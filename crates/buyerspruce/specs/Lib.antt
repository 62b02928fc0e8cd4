-- The one layout of every reply, and what each call promises.
pub mod Reply
pub mod Promises
