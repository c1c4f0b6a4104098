-- For the readers of places.
mod Places
