pub mod AnyKind
