pub mod Records
pub mod SerialRun
pub mod Family
pub mod MemberRows
pub mod RecordText
