mod DoorBytes
mod ExchangeLaw
mod Knowing
mod TakenItems
mod Turning
mod WholeLines
