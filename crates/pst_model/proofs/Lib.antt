mod AllKinds
mod AnswerRows
pub mod Carried
mod CheckRows
mod ContentRows
pub mod Copied
pub mod Counted
pub mod Effects
pub mod FaultyLines
pub mod Filled
pub mod ItemOctets
mod ItemRows
pub mod Joined
pub mod KindsFound
pub mod KindsRead
pub mod KindsWritten
pub mod Leasts
mod ListingRows
pub mod Orders
pub mod Puts
mod RangeRows
pub mod Ranged
mod ReportRows
pub mod RequestData
pub mod RequestItems
mod RequestRows
pub mod Reservations
pub mod Runs
pub mod Shapes
pub mod SpelledRequests
pub mod SplitFields
mod StoreRows
pub mod StoredPages
pub mod StoresKept
mod TableRows
mod TextRows
pub mod Texts
pub mod Timed
pub mod WholeRequests
pub mod Windows
pub mod Withins
pub mod WrittenForms
pub mod WrittenRequests
