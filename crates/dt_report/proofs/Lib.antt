mod WordsAndLines
pub mod EventsOfText
pub mod Callers
