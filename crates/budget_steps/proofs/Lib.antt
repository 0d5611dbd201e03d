pub mod Courses
pub mod FileLaws
pub mod Sources
pub mod JobLaws
