mod Flushed
mod Noted
mod Trimming
mod Undone
