pub mod File
pub mod Lines
pub mod ReaderInner
pub mod Valid
pub mod Laws
pub mod CauseTexts
