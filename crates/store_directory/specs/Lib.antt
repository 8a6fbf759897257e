-- A store (document 01, "The store"): definitions, then the laws that the code and the layers above use.
pub mod Scan
pub mod Kind
pub mod DirectoryEntries
pub mod KindScan
pub mod Valid
pub mod SlotLaws
pub mod BlockLaws
pub mod ScanLaws
pub mod ClashLaws
pub mod LayoutLaws
pub mod KindLaws
pub mod DirectoryLaws
pub mod OldStores
pub mod OldStoreLaws
