-- A view of an update: the bytes that it holds, what it gives of them, and that these are the update's own (document 01, the end of "The calls").
pub mod View
pub mod ViewLaws
