pub mod Courses
pub mod Noting
