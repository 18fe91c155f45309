mod Matched
mod OneMore
mod Origins
mod Updated
mod Yielded
