pub mod MapRecord
pub mod Laws
pub mod Recovery
pub mod Reading
pub mod SafeMaps
pub mod Told
pub mod SafetyLaws
