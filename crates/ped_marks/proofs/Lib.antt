mod Covering
mod Finishing
mod Opening
mod Ranges
mod Starting
mod Values
