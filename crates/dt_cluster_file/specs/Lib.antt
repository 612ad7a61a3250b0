pub mod Document
pub mod File
pub mod ReaderInner
pub mod Laws
pub mod Numbers
pub mod Rows
pub mod CauseTexts
