-- The run sheet: numbers and lines as bytes, what a page gets, and the text that a night file gives.
pub mod Text
pub mod Page
pub mod Sheet
pub mod Lines
