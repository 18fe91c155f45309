mod Counts
mod Nexts
mod Weighing
mod Ending
mod Examples
