mod OneDelivery
mod Opening
mod OwnEvents
mod StayEqual
