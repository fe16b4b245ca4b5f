pub mod Exam
