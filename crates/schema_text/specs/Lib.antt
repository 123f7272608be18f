pub mod Faults
pub mod Fields
pub mod FirstFault
pub mod Partition
pub mod PartitionWritten
pub mod Schema
pub mod SchemaWritten
