mod AddedRows
mod AskOrder
pub mod GivenItems
mod HeldBytes
mod LineItems
mod OpenedPacks
mod RightReplies
mod WorkSteps
