-- Words of classes and types, and the tables that have them.
pub mod OneWord
pub mod Tables
pub mod AnyCase
