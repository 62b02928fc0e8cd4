-- The greedy colouring in lent room, the call that hands it out, and what is handed back.
pub mod Classes
pub mod Colours
pub mod Numbers
pub mod Colour
pub mod Shown
