-- `Texts`: a text that is surely printed. `Seated`: the shuffle of a faultless pool. `Promised`: what is promised of the answer to a sheet. `Examples`: three
-- of them, computed.
pub mod Texts
pub mod Seated
pub mod Promised
pub mod Examples
