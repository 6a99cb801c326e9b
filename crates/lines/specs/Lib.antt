-- A call's line, from the bytes of its command sheet, and the lengths of lines.
pub mod SheetLine
