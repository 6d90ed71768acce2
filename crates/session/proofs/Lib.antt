mod Answered
mod Turning
mod Running
