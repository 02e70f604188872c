pub mod CarriedOut
