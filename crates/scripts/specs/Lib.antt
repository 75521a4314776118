pub mod Mistakes
pub mod Words
pub mod Numbers
pub mod Requests
pub mod Grammar
pub mod Examples
