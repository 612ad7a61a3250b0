mod PlayedEvents
mod Requests
