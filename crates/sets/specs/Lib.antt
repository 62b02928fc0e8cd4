-- Sets of jobs as words, tables, the rules of refusal, and what Check and Prefer answer.
pub mod Words
pub mod Places
pub mod Refusals
pub mod Rules
pub mod Tables
pub mod Check
pub mod Pairs
pub mod Prefer
