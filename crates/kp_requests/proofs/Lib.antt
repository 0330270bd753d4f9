mod Back
mod Frames
mod Objects
mod Plain
