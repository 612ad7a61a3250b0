pub mod WorldOfEvents
