pub mod Calls
pub mod Program
pub mod Machine
