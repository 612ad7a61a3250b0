mod OneCallMore
pub mod AccountKeys
pub mod Ranges
pub mod ValidLoad
pub mod TransferMeaning
pub mod AccountTotals
pub mod LoadTransactions
pub mod LoadWorlds
pub mod ShownTotals
pub mod CountedAnswers
pub mod KnownSummary
pub mod RowSums
pub mod Callers
