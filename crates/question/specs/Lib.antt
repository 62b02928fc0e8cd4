-- The question that Search and Colour are asked, what is refused of it, and where it starts.
pub mod Pins
pub mod Question
pub mod Start
