pub mod DefectData
