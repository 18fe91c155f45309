mod DigitByDigit
mod Directions
mod Joined
mod PushedRows
mod SignsFound
mod SingleVectors
mod Stripping
mod WholeProducts
