pub mod PutRow
