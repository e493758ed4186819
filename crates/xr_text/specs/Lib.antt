pub mod LogText
pub mod MapText
pub mod RecordText
pub mod Text
pub mod TextLaws
pub mod TreeText
