-- One update (document 01, "The update"): definitions in the document's order, then the laws that the code and the layers above use.
pub mod Sums
pub mod Verdict
pub mod SumLaws
pub mod VerdictLaws
pub mod VerdictLocal
pub mod VerdictOtherData
