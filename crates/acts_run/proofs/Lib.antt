mod FieldSizes
mod Walks
