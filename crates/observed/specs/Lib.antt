-- `Entries` is lists of a number, three or a Lab an entry, and `Colours` the modules' and cells' colours as they were observed and as they are corrected.
-- `Ready` is what is asked of modules.
pub mod Entries
pub mod Colours
pub mod Ready
