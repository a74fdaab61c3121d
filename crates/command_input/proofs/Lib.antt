pub mod Origins
pub mod Answering
