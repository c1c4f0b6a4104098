-- For the reader of digits.
mod Digits
