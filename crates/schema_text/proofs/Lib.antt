pub mod ValuesBack
pub mod DatesRead
pub mod FirstFaults
pub mod SchemaBack
