-- What the proof of `taylor` uses.
mod Laws
