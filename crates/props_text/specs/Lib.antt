-- The contracts of `read`, `write` and `Pairs` cite `Lines`, `Logical`, `Pairs`, `Sorted`, `Written` and `Outcome`. `Steps` and
-- `Half` alone are what private functions promise each other, step by step: nothing outside is claimed by them.
pub mod Half
pub mod Lines
pub mod Logical
pub mod Outcome
pub mod Pairs
pub mod Sorted
pub mod Steps
pub mod Written
