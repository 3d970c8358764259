mod Growing
mod Handed
mod Knowing
mod Planning
mod Refusing
