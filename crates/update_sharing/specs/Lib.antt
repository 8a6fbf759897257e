-- Whether two updates share a processor (document 01, "The store" and check 6 of the write): definitions, then the laws that the code and the
-- layers above use.
pub mod Shares
pub mod SharingLocal
