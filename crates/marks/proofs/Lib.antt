pub mod MarkStores
