pub mod Check
pub mod Chain
pub mod Program
pub mod Table
