-- a block among the blocks around it, and pictures that differ in it alone
pub mod Way
pub mod Outside
pub mod Put
pub mod Siblings
pub mod Context
-- where a block stands in a list
pub mod Places
pub mod Between
pub mod Standing
pub mod Family
-- the model: renewing, climbing, and a content in a leaf
pub mod Renew
pub mod Climb
pub mod Plant
pub mod Field
pub mod Inside
pub mod Choice
pub mod Site
-- what the model keeps, and that it is right
pub mod SetBits
pub mod Bounds
pub mod ByKeys
pub mod Ready
pub mod Edited
pub mod Examples
-- the code that plans
pub mod FamilyRead
pub mod PlanClimb
pub mod PlanTop
pub mod PlanPlaces
-- the code that exchanges the records
pub mod ExchangeLevel
pub mod ExchangeLeaves
pub mod ExchangeFront
pub mod ExchangeBack
pub mod ExchangeFilling
pub mod ExchangeSlice
pub mod ExchangeInsert
-- the code that renews, and the whole change
pub mod RenewingLoop
pub mod PuttingSlice
pub mod PuttingList
