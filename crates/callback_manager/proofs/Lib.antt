mod Kept
mod Rising
