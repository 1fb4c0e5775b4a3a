-- `Exported`: an exported call keeps what the library's call promised.
pub mod Exported
